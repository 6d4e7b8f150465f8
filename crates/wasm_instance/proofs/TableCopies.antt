-- Copies between the tables of a unit.
use Rattle.std.proofs.Common.{arith, ◌≡◌, ℕ, ◌-◌, ◌<◌, List, ◌++◌, length, get_or, refl, ap, ◌∙◌, subst}
use Rattle.std.specs.Prelude.{None, Some, Option, slice_set, Result}
use Rattle.std.proofs.lemmas.List.{set-get_or, get_or_append_left, get_or-append_right, set-append_left, set-append_right}
use Rattle.std.proofs.lemmas.Option.{slice_get-get_or}
use Rattle.wasm_form.specs.declared.runtime.Trap.{Trap}
use Rattle.wasm_form.specs.declared.runtime.Trap.TheVariants.{TableBounds}
use Rattle.spec_safety.specs.spec_binary.Options.{◌>>=◌}
use Rattle.spec_safety.specs.spec_runtime.Tables.{TableInstance, entries_copied_from}
use Rattle.wasm_space.specs.Access.{ChangesOrTraps}
use Rattle.wasm_instance.specs.Copies.{copied_between}

-- one of the tables became another
all_change : (tables : List TableInstance) (t : ℕ) (d new : TableInstance) (r : Result (Unit {0}) Trap) (wanted : Option TableInstance) → ChangesOrTraps TableBounds (get_or tables t d) wanted r new
    → ChangesOrTraps TableBounds tables (wanted >>= λ x. Some (slice_set tables t x)) r (slice_set tables t new)
all_change tables t d new r None h = (h.0, ap (slice_set tables t) h.1 ∙ set-get_or tables t d)
all_change tables t d new r (Some x) h = (h.0, ap (slice_set tables t) h.1)

module _ (at start n : ℕ) (d e new : TableInstance) (r : Result (Unit {0}) Trap) where
  -- the copy from one table to another is the one that is wanted
  abbrev IsCopy : TableInstance → TableInstance → Type 0
  IsCopy x y = ChangesOrTraps TableBounds x (entries_copied_from x at y start n) r new

  pub copied : (tables : List TableInstance) (to from : ℕ) → to < length tables → from < length tables → IsCopy (get_or tables to d) (get_or tables from e)
      → ChangesOrTraps TableBounds tables (copied_between tables to from at start n) r (slice_set tables to new)
  copied tables to from in_to in_from h =
      let wanted : copied_between tables to from at start n ≡ (entries_copied_from (get_or tables to d) at (get_or tables from e) start n >>= λ x. Some (slice_set tables to x)) = rw (slice_get-get_or tables to d in_to, slice_get-get_or tables from e in_from) refl in
      rw wanted (all_change tables to d new r (entries_copied_from (get_or tables to d) at (get_or tables from e) start n) h)

  module _ (before after tables : List TableInstance) (whole : tables ≡ before ++ after) where
    pub copied_to_front : (to from : ℕ) → length before ≡ from → to < from → from < length tables → IsCopy (get_or before to d) (get_or after 0 e)
        → ChangesOrTraps TableBounds tables (copied_between tables to from at start n) r (slice_set before to new ++ after)
    copied_to_front to from size less inside h =
        let front : to < length before = omega arith in
        let first : get_or tables to d ≡ get_or before to d = rw whole (get_or_append_left before after d to front) in
        let none : from - from ≡ 0 = omega arith in
        let second : get_or tables from e ≡ get_or after 0 e = ap (λ (ts : List TableInstance). get_or ts from e) whole ∙ get_or-append_right before after from from e size (omega arith) ∙ ap (λ (k : ℕ). get_or after k e) none in
        let there : slice_set tables to new ≡ slice_set before to new ++ after = rw whole (set-append_left before after to new front) in
        let copy : IsCopy (get_or tables to d) (get_or tables from e) = rw (first, second) h in
        subst (λ (ts : List TableInstance). ChangesOrTraps TableBounds tables (copied_between tables to from at start n) r ts) there (copied tables to from (omega arith) inside copy)

    pub copied_to_back : (to from : ℕ) → length before ≡ to → from < to → to < length tables → IsCopy (get_or after 0 d) (get_or before from e)
        → ChangesOrTraps TableBounds tables (copied_between tables to from at start n) r (before ++ slice_set after 0 new)
    copied_to_back to from size less inside h =
        let front : from < length before = omega arith in
        let none : to - to ≡ 0 = omega arith in
        let first : get_or tables to d ≡ get_or after 0 d = ap (λ (ts : List TableInstance). get_or ts to d) whole ∙ get_or-append_right before after to to d size (omega arith) ∙ ap (λ (k : ℕ). get_or after k d) none in
        let second : get_or tables from e ≡ get_or before from e = rw whole (get_or_append_left before after e from front) in
        let there : slice_set tables to new ≡ before ++ slice_set after 0 new =
        ap (λ (ts : List TableInstance). slice_set ts to new) whole ∙ set-append_right before after to to new size (omega arith) ∙ ap (λ (k : ℕ). before ++ slice_set after k new) none in
        let copy : IsCopy (get_or tables to d) (get_or tables from e) = rw (first, second) h in
        subst (λ (ts : List TableInstance). ChangesOrTraps TableBounds tables (copied_between tables to from at start n) r ts) there (copied tables to from inside (omega arith) copy)
