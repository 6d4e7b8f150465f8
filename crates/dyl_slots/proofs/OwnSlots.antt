-- The slots of functions of a linked set, member by member.
use Rattle.std.proofs.Common.{◌≡◌, ℕ, ◌+◌, ◌<◌, ◌≤◌, Bool, true, false, List, [], ◌∷◌, length, map, Some, None, refl, sym, ap, ap₂, ◌∙◌, nat_eq, arith, add-one, length-append, if◌then◌else◌, cond}
use Rattle.std.specs.List.{position_from}
use Rattle.std.proofs.lemmas.Bool.Decides.{nat_tests}
use Rattle.std.proofs.lemmas.List.{length-map}
use Rattle.wasm_form.specs.declared.runtime.LoaderCall.{LoaderCall}
use Rattle.wasm_form.specs.declared.runtime.Ref.{Ref}
use Rattle.wasm_form.specs.declared.runtime.Ref.TheVariants.{Own, Loader, Host}
use Rattle.spec_loading.specs.spec_linking.Sets.{Member}
use Rattle.spec_loading.specs.spec_linking.Definitions.{or_other}
use Rattle.spec_loading.specs.spec_linking.LinkedSets.{LinkedSet}
use Rattle.spec_loading.specs.spec_linking.Slots.{same_call, same_ref, linked_plan, fresh_of, fresh_from, fresh_functions, outside_refs, outside_slots, fresh_slot, slot_of}
use Rattle.spec_loading.specs.LoadedSet.{slots_before, first_slot}
use Rattle.dyl_slots.specs.Outside.{calls_in, hosts_in, outside_in}
use Rattle.dyl_slots.proofs.Positions.{or_none, position_append, position_map, position_nowhere}
use Rattle.dyl_slots.proofs.OutsidePlaces.{outside_same, own_nowhere, loader_place, host_place}

module _ (L : LinkedSet) where
  -- ---- how many

  before_next : (n : ℕ) → slots_before L (n + 1) ≡ slots_before L n + length (fresh_of L n)
  before_next n = ap (slots_before L) (add-one n)

  fresh_count_from : (n : ℕ) (xs : List Member) → slots_before L n + length (fresh_from L n xs) ≡ slots_before L (n + length xs)
  fresh_count_from n [] = let same : n ≡ n + 0 = omega arith in let e = ap (slots_before L) same in omega arith
  fresh_count_from n (x ∷ xs) =
      let both = length-append (map (Own n) (fresh_of L n)) (fresh_from L (n + 1) xs) in
      let here = length-map (fresh_of L n) (Own n) in
      let next = before_next n in
      let rest = fresh_count_from (n + 1) xs in
      let same : (n + 1) + length xs ≡ n + length (x ∷ xs) = omega arith in
      let sum : slots_before L n + length (fresh_from L n (x ∷ xs)) ≡ slots_before L (n + 1) + length (fresh_from L (n + 1) xs) = omega arith in
      sum ∙ rest ∙ ap (slots_before L) same

  pub fresh_count : length (fresh_functions L) ≡ slots_before L (length L.set.members)
  fresh_count =
      let e = fresh_count_from 0 L.set.members in
      let same : 0 + length L.set.members ≡ length L.set.members = omega arith in
      let there = ap (slots_before L) same in
      omega arith

  -- ---- functions of members

  own_place : (m k f i : ℕ) (fs : List ℕ) (b : Bool) → nat_eq m k ≡ b → position_from (same_ref (Own m f)) i (map (Own k) fs) ≡ (if b then position_from (nat_eq f) i fs else None)
  own_place m k f i fs true q = position_map (same_ref (Own m f)) (Own k) i fs ∙ rw q refl
  own_place m k f i fs false q = position_map (same_ref (Own m f)) (Own k) i fs ∙ rw q (position_nowhere i fs)

  own_later : (m f i n : ℕ) (xs : List Member) → m < n → position_from (same_ref (Own m f)) i (fresh_from L n xs) ≡ None
  own_later m f i n [] lt = refl
  own_later m f i n (x ∷ xs) lt =
      let other : nat_eq m n ≡ false = grind (arith, nat_tests) in
      position_append (same_ref (Own m f)) i (map (Own n) (fresh_of L n)) (fresh_from L (n + 1) xs)
      ∙ ap₂ or_other (own_place m n f i (fresh_of L n) false other) (own_later m f (i + length (map (Own n) (fresh_of L n))) (n + 1) xs (omega arith))

  own_found : (m f base n : ℕ) (xs : List Member) → n ≤ m → m < n + length xs
      → position_from (same_ref (Own m f)) (base + slots_before L n) (fresh_from L n xs) ≡ position_from (nat_eq f) (base + slots_before L m) (fresh_of L m)
  own_found m f base n [] le lt = absurd (omega arith)
  own_found m f base n (x ∷ xs) le lt = position_append (same_ref (Own m f)) (base + slots_before L n) (map (Own n) (fresh_of L n)) (fresh_from L (n + 1) xs) ∙ by (nat_eq m n) refl (λ h. own_found m f base (n + 1) xs h (omega arith))
    where
      after : (base + slots_before L n) + length (map (Own n) (fresh_of L n)) ≡ base + slots_before L (n + 1)
      after = let here = length-map (fresh_of L n) (Own n) in let next = before_next n in omega arith

      by : (b : Bool) → nat_eq m n ≡ b → (n + 1 ≤ m → position_from (same_ref (Own m f)) (base + slots_before L (n + 1)) (fresh_from L (n + 1) xs) ≡ position_from (nat_eq f) (base + slots_before L m) (fresh_of L m))
          → or_other (position_from (same_ref (Own m f)) (base + slots_before L n) (map (Own n) (fresh_of L n))) (position_from (same_ref (Own m f)) ((base + slots_before L n) + length (map (Own n) (fresh_of L n))) (fresh_from L (n + 1) xs))
          ≡ position_from (nat_eq f) (base + slots_before L m) (fresh_of L m)
      by true q ih =
          let same : m ≡ n = grind (arith, nat_tests) in
          ap₂ or_other (own_place m n f (base + slots_before L n) (fresh_of L n) true q) (own_later m f ((base + slots_before L n) + length (map (Own n) (fresh_of L n))) (n + 1) xs (omega arith))
          ∙ or_none (position_from (nat_eq f) (base + slots_before L n) (fresh_of L n))
          ∙ ap (λ k. position_from (nat_eq f) (base + slots_before L k) (fresh_of L k)) (sym same)
      by false q ih =
          let next : n + 1 ≤ m = grind (arith, nat_tests) in
          ap₂ or_other (own_place m n f (base + slots_before L n) (fresh_of L n) false q) (ap (λ k. position_from (same_ref (Own m f)) k (fresh_from L (n + 1) xs)) after)
          ∙ ih next

  outside_is : outside_slots L ≡ outside_in (outside_refs L)
  outside_is = outside_same (outside_refs L)

  pub own_fresh : (m f : ℕ) → m < length L.set.members → fresh_slot L (Own m f) ≡ position_from (nat_eq f) (first_slot L m) (fresh_of L m)
  own_fresh m f lt =
      let end = (linked_plan L).table_end in
      let at : end ≡ end + slots_before L 0 = omega arith in
      position_append (same_ref (Own m f)) end (fresh_functions L) (outside_slots L)
      ∙ ap₂ or_other (ap (λ k. position_from (same_ref (Own m f)) k (fresh_functions L)) at ∙ own_found m f end 0 L.set.members (omega arith) (omega arith))
      (ap (position_from (same_ref (Own m f)) (end + length (fresh_functions L))) outside_is ∙ own_nowhere m f (end + length (fresh_functions L)) (outside_refs L))
      ∙ or_none (position_from (nat_eq f) (first_slot L m) (fresh_of L m))

  -- ---- functions outside the members

  not_own : (r : Ref) → ((m f : ℕ) → same_ref r (Own m f) ≡ false) → (i n : ℕ) (xs : List Member) → position_from (same_ref r) i (fresh_from L n xs) ≡ None
  not_own r other i n [] = refl
  not_own r other i n (x ∷ xs) =
      position_append (same_ref r) i (map (Own n) (fresh_of L n)) (fresh_from L (n + 1) xs)
      ∙ ap₂ or_other (position_map (same_ref r) (Own n) i (fresh_of L n) ∙ none i (fresh_of L n)) (not_own r other (i + length (map (Own n) (fresh_of L n))) (n + 1) xs)
    where
      none : (k : ℕ) (fs : List ℕ) → position_from (λ f. same_ref r (Own n f)) k fs ≡ None
      none k [] = refl
      none k (f ∷ fs) = ap (λ b. cond b (Some k) (position_from (λ g. same_ref r (Own n g)) (k + 1) fs)) (other n f) ∙ none (k + 1) fs

  outside_fresh : (r : Ref) → ((m f : ℕ) → same_ref r (Own m f) ≡ false) → fresh_slot L r ≡ position_from (same_ref r) (first_slot L (length L.set.members)) (outside_in (outside_refs L))
  outside_fresh r other =
      let end = (linked_plan L).table_end in
      position_append (same_ref r) end (fresh_functions L) (outside_slots L)
      ∙ ap₂ or_other (not_own r other end 0 L.set.members) (ap (position_from (same_ref r) (end + length (fresh_functions L))) outside_is)
      ∙ ap (λ k. position_from (same_ref r) (end + k) (outside_in (outside_refs L))) fresh_count

  pub loader_fresh : (call : LoaderCall) → slot_of L (Loader call) ≡ position_from (same_call call) (first_slot L (length L.set.members)) (calls_in (outside_refs L))
  loader_fresh call = outside_fresh (Loader call) (λ m f. refl) ∙ loader_place call (first_slot L (length L.set.members)) (outside_refs L)

  pub host_fresh : (n : ℕ) → slot_of L (Host n) ≡ position_from (nat_eq n) (first_slot L (length L.set.members) + length (calls_in (outside_refs L))) (hosts_in (outside_refs L))
  host_fresh n = outside_fresh (Host n) (λ m f. refl) ∙ host_place n (first_slot L (length L.set.members)) (outside_refs L)
