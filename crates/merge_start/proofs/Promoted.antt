-- Promoted members: their places in the list, and that what is the same is kept when one more is promoted.
use Rattle.std.proofs.Common.{◌≡◌, ℕ, suc, ◌+◌, ◌^◌, ◌<◌, ◌≤◌, Bool, true, false, List, [], ◌∷◌, ◌++◌, length, nat_eq, get_or, slice_get, slice_set, Option, Some, None, cond, not, refl, sym, ap, ◌∙◌, subst, arith, length-append}
use Rattle.std.specs.Prelude.{unwrap_or}
use Rattle.std.specs.List.{All, IsDistinct, filter, position_from}
use Rattle.std.proofs.lemmas.Bool.{or_parts}
use Rattle.std.proofs.lemmas.Bool.Decides.{nat_tests}
use Rattle.std.proofs.lemmas.Cmp.{nat_eq_equiv}
use Rattle.std.proofs.lemmas.List.Elements.{All-push, All-filter, filter_passes}
use Rattle.std.proofs.lemmas.List.Folds.{Any-from_list_any}
use Rattle.std.proofs.lemmas.Map.Steps.{length-le_from_distinct_below}
use Rattle.std.proofs.lemmas.Option.{slice_get_within}
use Rattle.wasm_form.specs.declared.runtime.Value.{Value}
use Rattle.wasm_form.specs.declared.runtime.Value.TheVariants.{Num}
use Rattle.spec_loading.specs.spec_execution.Instances.{ModuleParts}
use Rattle.spec_loading.specs.spec_linking.Orders.{is_among, closure}
use Rattle.spec_loading.specs.spec_linking.Gathering.{IsSet}
use Rattle.spec_loading.specs.spec_linking.LinkedSets.{LinkedSet}
use Rattle.spec_loading.specs.Loading.{LoaderState}
use Rattle.spec_loading.specs.LoaderAnswers.{later_members}
use Rattle.spec_loading.specs.Members.{uses_loader}
use Rattle.spec_loading.proofs.InsideSets.{among_turned, distinct_last, closure_inside}
use Rattle.merge_match.specs.Renumbering.{Numbers}
use Rattle.merge_match.proofs.Lists.{length-slice_set}
use Rattle.merge_start.specs.Words.{Starts}
use Rattle.merge_start.specs.Started.{AreLater, place_of, Same}
use Rattle.merge_start.proofs.Keeping.{get_same, get_other, others, first_globals, whole_globals, other_there, other_set, behind_same}

-- ---- places

module _ (k : ℕ) where
  none_at : (ps : List ℕ) (n : ℕ) → is_among k ps ≡ false → position_from (λ y. nat_eq y k) n ps ≡ None
  none_at [] n e = refl
  none_at (p ∷ ps) n e = (let both = or_parts (nat_eq p k) (is_among k ps) e in rw both.0 (none_at ps (n + 1) both.1))

  last_at : (ps : List ℕ) (n : ℕ) → is_among k ps ≡ false → position_from (λ y. nat_eq y k) n (ps ++ k ∷ []) ≡ Some (n + length ps)
  last_at [] n e = rw (nat_eq_equiv.refl k) (ap Some (omega arith))
  last_at (p ∷ ps) n e =
      let both = or_parts (nat_eq p k) (is_among k ps) e in
      let moved : n + 1 + length ps ≡ n + suc (length ps) = omega arith in
      rw both.0 (last_at ps (n + 1) both.1 ∙ ap Some moved)

  old_at : (m : ℕ) (ps : List ℕ) (n : ℕ) → nat_eq k m ≡ false → position_from (λ y. nat_eq y m) n (ps ++ k ∷ []) ≡ position_from (λ y. nat_eq y m) n ps
  old_at m [] n e = rw e refl
  old_at m (p ∷ ps) n e = ap (cond (nat_eq p m) (Some n)) (old_at m ps (n + 1) e)

  some_at : (ps : List ℕ) (n : ℕ) → is_among k ps ≡ true → (j : ℕ) × (position_from (λ y. nat_eq y k) n ps ≡ Some (n + j)) × (j < length ps)
  some_at [] n e = absurd cc
  some_at (p ∷ ps) n e = go (nat_eq p k) refl (λ h. some_at ps (n + 1) h)
    where
      go : (b : Bool) → nat_eq p k ≡ b → (is_among k ps ≡ true → (j : ℕ) × (position_from (λ y. nat_eq y k) (n + 1) ps ≡ Some (n + 1 + j)) × (j < length ps))
          → (j : ℕ) × (position_from (λ y. nat_eq y k) n (p ∷ ps) ≡ Some (n + j)) × (j < length (p ∷ ps))
      go true q rest = (0, rw q (ap Some (omega arith)), omega arith)
      go false q rest =
          let later = rest (rw q at e) in
          let moved : n + 1 + later.0 ≡ n + suc later.0 = omega arith in
          let less = later.2 in
          (suc later.0, rw q (later.1 ∙ ap Some moved), omega (arith, less))

  -- a member that isn't promoted has the place 0, and one that is has a place from 1 to their number
  pub place_none : (ps : List ℕ) → is_among k ps ≡ false → place_of ps k ≡ 0
  place_none ps e = ap (λ (o : Option ℕ). unwrap_or o 0) (none_at ps 1 e)

  pub place_some : (ps : List ℕ) → is_among k ps ≡ true → (j : ℕ) × (place_of ps k ≡ suc j) × (j < length ps)
  place_some ps e = (let found = some_at ps 1 e in (found.0, ap (λ (o : Option ℕ). unwrap_or o 0) found.1 ∙ omega arith, found.2))

  -- a member that joins them has the next place, and the others keep theirs
  place_last : (ps : List ℕ) → is_among k ps ≡ false → place_of (ps ++ k ∷ []) k ≡ suc (length ps)
  place_last ps e = ap (λ (o : Option ℕ). unwrap_or o 0) (last_at ps 1 e) ∙ omega arith

  place_old : (m : ℕ) (ps : List ℕ) → nat_eq k m ≡ false → place_of (ps ++ k ∷ []) m ≡ place_of ps m
  place_old m ps e = ap (λ (o : Option ℕ). unwrap_or o 0) (old_at m ps 1 e)

-- ---- distinct members

-- what is so of all of some numbers is so of one that is among them
pub found_among : (P : ℕ → Type 0) (ps : List ℕ) (q : ℕ) → All P ps → is_among q ps ≡ true → P q
found_among P ps q all e =
    let found = Any-from_list_any (λ p. nat_eq p q) ps e in
    let test = found.4 in
    let same : found.1 ≡ q = grind (arith, nat_tests) in
    subst P (found.3 ∙ same) (all found.0 found.1 found.2)

pub few_promoted : (L : LinkedSet) (ps : List ℕ) → AreLater L ps → IsDistinct nat_eq ps → length ps ≤ length L.set.members
few_promoted L ps later apart =
    length-le_from_distinct_below ps (length L.set.members) apart
    (λ q h. (found_among (λ k. (k < length L.set.members) × (is_among k L.set.startup ≡ false)) ps q later (sym (among_turned q ps) ∙ h)).0)

-- the members of a closure that are promoted
pub later_inside : (L : LinkedSet) → IsSet L.set → (m : ℕ) → m < length L.set.members → AreLater L (later_members L.set m)
later_inside L set m lt =
    let test : ℕ → Bool = λ k. not (is_among k L.set.startup) in
    let inside = All-filter test (λ k. k < length L.set.members) (closure L.set m) (closure_inside L.set set m lt) in
    let passes = filter_passes test (closure L.set m) in
    λ i d less. (inside i d less, negated (is_among (get_or (filter test (closure L.set m)) i d) L.set.startup) (passes i d less))
  where
    negated : (b : Bool) → not b ≡ true → b ≡ false
    negated true e = absurd cc
    negated false e = refl

-- ---- the globals of the merger

module _ (L : LinkedSet) (n : Numbers) (x : Starts) (loader : LoaderState) (us parts : ModuleParts) (same : Same L n x loader us parts) where
  abbrev many : ℕ
  many = length L.set.members

  abbrev others_now : List Value
  others_now = others L n x loader us parts same

  module _ (used : uses_loader L ≡ true) (number : x.promoted ≡ x.guards + many + 1) where
    pub count_there : slice_get parts.globals x.promoted ≡ Some (Num (length loader.promoted))
    count_there = other_there L n x loader us parts same 1 x.promoted number ∙ same.store.kept.count used

    place_number : (k : ℕ) → x.promoted + 1 + k ≡ x.guards + many + (2 + k)
    place_number k = omega (arith, number)

    pub place_there : (k : ℕ) → k < many → slice_get parts.globals (x.promoted + 1 + k) ≡ Some (Num (place_of loader.promoted k))
    place_there k lt = other_there L n x loader us parts same (2 + k) (x.promoted + 1 + k) (place_number k) ∙ same.store.kept.places used k lt

    -- The number of promoted members, and one more, are words: each member is one of the module's globals.
    pub few_there : suc (length loader.promoted) < 2 ^ 32
    few_there =
        let counted = slice_get_within parts.globals x.promoted (Num (length loader.promoted)) count_there in
        let few = same.store.few.globals in
        let among = few_promoted L loader.promoted same.store.kept.later same.store.kept.apart in
        omega (arith, number, counted, few, among)

    -- one more member is promoted
    module _ (k : ℕ) (inside : k < many) (later : is_among k L.set.startup ≡ false) (new : is_among k loader.promoted ≡ false) where
      abbrev place : Value
      place = Num (suc (length loader.promoted))

      abbrev more_promoted : LoaderState
      more_promoted = record loader { promoted = loader.promoted ++ k ∷ [] }

      abbrev with_count : List Value
      with_count = slice_set parts.globals x.promoted place

      abbrev pub promoted_parts : ModuleParts
      promoted_parts = record parts { globals = slice_set with_count (x.promoted + 1 + k) place }

      abbrev with_place : List Value
      with_place = slice_set others_now 1 place

      abbrev new_others : List Value
      new_others = slice_set with_place (2 + k) place

      globals_are : promoted_parts.globals ≡ first_globals L n x loader us parts same ++ new_others
      globals_are =
          ap (λ l. slice_set l (x.promoted + 1 + k) place)
          (ap (λ l. slice_set l x.promoted place) (whole_globals L n x loader us parts same)
          ∙ other_set L n x loader us parts same others_now 1 x.promoted place number)
          ∙ other_set L n x loader us parts same with_place (2 + k) (x.promoted + 1 + k) place (place_number k)

      old_place : (m : ℕ) → m < many → slice_get with_place (2 + m) ≡ Some (Num (place_of loader.promoted m))
      old_place m lt = get_other others_now (2 + m) 1 place (λ h. omega (arith, h)) ∙ same.store.kept.places used m lt

      new_places : (m : ℕ) → m < many → slice_get new_others (2 + m) ≡ Some (Num (place_of more_promoted.promoted m))
      new_places m lt = go (nat_eq k m) refl
        where
          go : (b : Bool) → nat_eq k m ≡ b → slice_get new_others (2 + m) ≡ Some (Num (place_of more_promoted.promoted m))
          go true q =
              let is : k ≡ m = grind (arith, nat_tests) in
              subst (λ i. slice_get new_others (2 + i) ≡ Some (Num (place_of more_promoted.promoted i))) is
              (get_same with_place (2 + k) (Num (place_of loader.promoted k)) place (old_place k inside)
              ∙ ap (λ i. Some (Num i)) (sym (place_last k loader.promoted new)))
          go false q =
              let other : k ≡ m → ⊥ = λ h. (let is : nat_eq k m ≡ true = grind (arith, nat_tests) in cc) in
              get_other with_place (2 + m) (2 + k) place (λ h. other (omega (arith, h)))
              ∙ old_place m lt ∙ ap (λ i. Some (Num i)) (sym (place_old k m loader.promoted q))

      pub promoted_same : Same L n x more_promoted us promoted_parts
      promoted_same =
          let kept = same.store.kept in
          let long : length (loader.promoted ++ k ∷ []) ≡ suc (length loader.promoted) =
          (let both = length-append loader.promoted (k ∷ []) in omega (arith, both)) in
          behind_same L n x loader us parts same loader.error (loader.promoted ++ k ∷ []) new_others promoted_parts.globals
          (record {
            error = λ is.
                get_other with_place 0 (2 + k) place (λ h. omega (arith, h))
                ∙ get_other others_now 0 1 place (λ h. omega (arith, h)) ∙ kept.error is;
            few = kept.few;
            count = λ is.
                get_other with_place 1 (2 + k) place (λ h. omega (arith, h))
                ∙ get_same others_now 1 (Num (length loader.promoted)) place (kept.count is) ∙ ap (λ i. Some (Num i)) (sym long);
            places = λ is. new_places;
            later = All-push (λ i. (i < many) × (is_among i L.set.startup ≡ false)) loader.promoted k kept.later (inside, later);
            apart = distinct_last loader.promoted k kept.apart new;
          })
          globals_are
          (length-slice_set with_count (x.promoted + 1 + k) place ∙ length-slice_set parts.globals x.promoted place)
