-- The numbers that the functions of the loader name are those of a linked set.
use Rattle.std.proofs.Common.{◌≡◌, ◌<◌, ℕ, ◌+◌, Bool, true, false, length, nat_lt, slice_get, Option, Some, None, option_map, if◌then◌else◌, refl, sym, ap, ◌∙◌, arith}
use Rattle.std.specs.List.{range_with_len}
use Rattle.std.proofs.lemmas.Bool.Decides.{nat_tests}
use Rattle.wasm_form.specs.declared.runtime.LoaderCall.TheVariants.{Dlopen, Dlsym, Dlclose, Dlerror}
use Rattle.spec_loading.specs.spec_linking.LinkedSets.{LinkedSet}
use Rattle.spec_loading.specs.Members.{uses_loader}
use Rattle.merge_dl.specs.Listed.{AreDlNumbers}
use Rattle.merge_index.specs.declared.numbers.LoaderNumbers.{LoaderNumbers}
use Rattle.merge_index.specs.Numbering.{first_opening, length_number, first_find, first_call, call_place, loader_numbers, starts_of}
use Rattle.dyl_addresses.proofs.Items.{range_item}
use Rattle.merge_module.specs.MergedModule.{finders_of}
use Rattle.merge_whole.specs.Counts.{loader_by}
use Rattle.merge_whole.specs.Given.{HasLoader}

module _ (L : LinkedSet) (guard : ℕ) (is : guard ≡ (starts_of L).guards) where
  opening_is : (first m : ℕ) → first ≡ first_opening L → m < length L.set.members
      → slice_get (range_with_len first (length L.set.members)) m ≡ Some (first_opening L + m)
  opening_is first m begins lt = range_item first (length L.set.members) m ∙ go (nat_lt m (length L.set.members)) refl
    where
      go : (b : Bool) → nat_lt m (length L.set.members) ≡ b → (if b then Some (first + m) else None) ≡ Some (first_opening L + m)
      go true q = ap (λ f. Some (f + m)) begins
      go false q = absurd (grind (arith, nat_tests))

  numbers_are : (n : LoaderNumbers) → n.first_opening ≡ first_opening L → n.length ≡ length_number L
      → AreDlNumbers L (loader_by L guard n) (starts_of L) (finders_of L (starts_of L))
  numbers_are n begins long = record {
    guards = sym is;
    error = ap (λ (a : ℕ). a + length L.set.members) (sym is);
    first = sym long;
    find = λ m. ap (λ f. f + 1 + m) (sym long);
    promoted = ap (λ (a : ℕ). a + length L.set.members + 1) (sym is);
    opens = λ m lt. opening_is n.first_opening m begins lt;
  }

  abbrev numbers : LoaderNumbers
  numbers = record {
    first_opening = first_opening L;
    length = length_number L;
    first_find = first_find L;
    dlopen = first_call L + call_place Dlopen;
    dlsym = first_call L + call_place Dlsym;
    dlclose = first_call L + call_place Dlclose;
    dlerror = first_call L + call_place Dlerror;
  }

  pub has_loader : (found : Option LoaderNumbers) → found ≡ loader_numbers L → HasLoader L (starts_of L) (option_map (loader_by L guard) found)
  has_loader found same = go found (uses_loader L) refl same
    where
      go : (o : Option LoaderNumbers) (b : Bool) → uses_loader L ≡ b → o ≡ (if b then Some numbers else None)
          → HasLoader L (starts_of L) (option_map (loader_by L guard) o)
      go None true q e = absurd cc
      go None false q e = q
      go (Some n) true q e =
          let this : n ≡ numbers = cc in
          (q, numbers_are n (ap (λ (z : LoaderNumbers). z.first_opening) this) (ap (λ (z : LoaderNumbers). z.length) this))
      go (Some n) false q e = absurd cc
