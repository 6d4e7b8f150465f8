-- What is the same in the beginning.
use Rattle.std.proofs.Common.{◌≡◌, ℕ, zero, suc, ◌<◌, ◌≤◌, List, [], ◌∷◌, ◌++◌, length, map, slice_get, Some, refl, ap, ◌∙◌, subst, arith, ◌+◌, false}
use Rattle.std.specs.List.{IsDistinct}
use Rattle.std.proofs.lemmas.List.{length-map}
use Rattle.std.proofs.lemmas.List.Elements.{All-nil}
use Rattle.std.proofs.lemmas.Option.{slice_get_within}
use Rattle.wasm_form.specs.declared.runtime.Value.{Value}
use Rattle.wasm_form.specs.declared.runtime.Value.TheVariants.{Num}
use Rattle.spec_loading.specs.spec_linking.Orders.{is_among}
use Rattle.spec_loading.specs.spec_linking.LinkedSets.{LinkedSet}
use Rattle.spec_loading.specs.Members.{opening_table, opening_store, from_members}
use Rattle.spec_loading.specs.LoadedSet.{set_opening}
use Rattle.merge_match.specs.Renumbering.{Numbers}
use Rattle.merge_match.proofs.Openings.{opening_is_inside}
use Rattle.spec_loading.specs.spec_execution.Instances.{ModuleParts}
use Rattle.spec_loading.specs.spec_execution.OneModule.{opened_table}
use Rattle.merge_start.specs.Words.{Starts}
use Rattle.merge_start.specs.Started.{Same, IsOpened}

module _ {A : Type 0} where
  zeros : (xs : List A) → map (λ x. Num 0) xs ≡ map Num (map (λ x. 0) xs)
  zeros [] = refl
  zeros (x ∷ xs) = ap (λ (l : List Value). Num 0 ∷ l) (zeros xs)

  low : (xs : List A) (m stage : ℕ) → slice_get (map (λ x. 0) xs) m ≡ Some stage → stage ≤ 4
  low [] m stage e = absurd cc
  low (x ∷ xs) zero stage e = (let none : stage ≡ 0 = cc in omega (arith, none))
  low (x ∷ xs) (suc m) stage e = low xs m stage e

  some : (x : A) (xs : List A) → 0 < length (x ∷ xs)
  some x xs = omega arith

pub opened_same : (L : LinkedSet) (n : Numbers) (x : Starts) (parts : ModuleParts) → IsOpened L n x parts
    → Same L n x (set_opening L).loader (opening_store L) parts
unfolding IsDistinct
opened_same L n x parts is = record {
  store = record {
    more = is.more;
    whole = is.whole;
    kept = record {
      sized = length-map L.set.members (λ m. 0);
      low = low L.set.members;
      others = is.others;
      guards = is.guards ∙ ap (λ (l : List Value). l ++ is.others) (zeros L.set.members);
      error = is.error;
      few = omega arith;
      count = λ used. is.promoted used 0 (omega arith);
      places = λ used m lt.
          (let place : 1 + (1 + m) ≡ 2 + m = omega arith in
          subst (λ k. slice_get is.others k ≡ Some (Num 0)) place (is.promoted used (1 + m) (omega (arith, lt))));
      later = All-nil (λ k. (k < length L.set.members) × (is_among k L.set.startup ≡ false));
      apart = tt;
      slots = λ m held. is.slots m (subst (λ k. m < k) (length-map L.set.members (λ m. 0)) (slice_get_within (map (λ m. 0) L.set.members) m 0 held));
    };
    inside = opening_is_inside L;
    few = is.few;
  };
  sized = record { globals = is.first_guard; elems = is.first_slots; tables = some (opening_table L) (from_members (λ m wasm. map opened_table wasm.tables) 0 L.set.members) };
}
