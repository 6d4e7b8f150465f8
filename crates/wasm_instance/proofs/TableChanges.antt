-- What becomes of the parts of a module where one of its tables changes.
use Rattle.std.proofs.Common.{◌≡◌, ℕ, ◌<◌, List, map, length, get_or, refl, ap, ◌∙◌, sym, subst, Ok, Err}
use Rattle.std.specs.Prelude.{None, Some, Option, slice_get, slice_set, Result, IfSome}
use Rattle.std.proofs.lemmas.List.{set-get_or, length-map, get_or-map}
use Rattle.std.proofs.lemmas.Option.{get_or_from_slice_get, slice_get_within}
use Rattle.wasm_form.specs.declared.Memory.{Memory}
use Rattle.wasm_form.specs.declared.module.Module.{Module}
use Rattle.wasm_form.specs.declared.runtime.Ref.{Ref}
use Rattle.wasm_form.specs.declared.runtime.Trap.{Trap}
use Rattle.wasm_form.specs.declared.runtime.Trap.TheVariants.{TableBounds}
use Rattle.spec_safety.specs.spec_runtime.Tables.{TableInstance}
use Rattle.spec_safety.specs.spec_execution.Instances.{ModuleParts, module_view}
use Rattle.wasm_space.specs.Access.{ChangesOrTraps, GrowsOrStays}
use Rattle.wasm_view.specs.Tables.{ChangesTable, GrowsTable}

abbrev with_table : ModuleParts → ℕ → TableInstance → ModuleParts
with_table parts t new = record parts { tables = slice_set parts.tables t new }

-- what holds of what was read holds of what is found in its place
at_place : {A : Type 0} (xs : List A) (i : ℕ) (x : A) → x ≡ get_or xs i x → (P : A → Type 0) → P x → (found : Option A) → slice_get xs i ≡ found → IfSome found P
at_place xs i x read P h None is = tt
at_place xs i x read P h (Some y) is = subst P (read ∙ get_or_from_slice_get xs i y x is) h

at_mapped_place : {A B : Type 0} (f : A → B) (xs : List A) (i : ℕ) (x : A) → x ≡ get_or xs i x → (P : B → Type 0) → P (f x) → (found : Option B) → slice_get (map f xs) i ≡ found → IfSome found P
at_mapped_place f xs i x read P h None is = tt
at_mapped_place f xs i x read P h (Some y) is =
    let inside : i < length xs = rw (length-map xs f) at (slice_get_within (map f xs) i y is) in
    subst P (ap f read ∙ sym (get_or-map f xs i x y inside) ∙ get_or_from_slice_get (map f xs) i y y is) h

-- the table x of number t became another
module _ (m : Module) (parts : ModuleParts) (unit t : ℕ) (x new : TableInstance) (read : x ≡ get_or parts.tables t x) where
  stays : new ≡ x → with_table parts t new ≡ parts
  stays same = ap (λ (ts : List TableInstance). record parts { tables = ts }) (ap (slice_set parts.tables t) (same ∙ read) ∙ set-get_or parts.tables t x)

  changes : (r : Result (Unit {0}) Trap) (wanted : Option TableInstance) → ChangesOrTraps TableBounds x wanted r new → ChangesTable (module_view m) parts unit t wanted r (with_table parts t new)
  changes r None h = (h.0, stays h.1)
  changes r (Some y) h = (h.0, ap (with_table parts t) h.1)

  grows : (r : Result ℕ Memory) (size : ℕ) (wanted : Option TableInstance) → GrowsOrStays x wanted size r new → GrowsTable (module_view m) parts unit t wanted size r (with_table parts t new)
  grows r size None h = (h.0, stays h.1)
  grows (Ok answer) size (Some y) h = (h.0, ap (with_table parts t) h.1)
  grows (Err e) size (Some y) h = stays h

module _ (m : Module) (parts now : ModuleParts) (same : parts ≡ now) (unit t : ℕ) (x new : TableInstance) (read : x ≡ get_or parts.tables t x) where
  pub table_changes : (f : TableInstance → Option TableInstance) (r : Result (Unit {0}) Trap) → ChangesOrTraps TableBounds x (f x) r new
      → IfSome (slice_get now.tables t) (λ y. ChangesTable (module_view m) now unit t (f y) r (with_table parts t new))
  table_changes f r h =
      let P : TableInstance → Type 0 = λ y. ChangesTable (module_view m) parts unit t (f y) r (with_table parts t new) in
      let Q : ModuleParts → Type 0 = λ p. IfSome (slice_get p.tables t) (λ y. ChangesTable (module_view m) p unit t (f y) r (with_table parts t new)) in
      subst Q same (at_place parts.tables t x read P (changes m parts unit t x new read r (f x) h) (slice_get parts.tables t) refl)

  pub table_grows : (f : TableInstance → Option TableInstance) (r : Result ℕ Memory) → GrowsOrStays x (f x) (length x.entries) r new
      → IfSome (slice_get now.tables t) (λ y. GrowsTable (module_view m) now unit t (f y) (length y.entries) r (with_table parts t new))
  table_grows f r h =
      let P : TableInstance → Type 0 = λ y. GrowsTable (module_view m) parts unit t (f y) (length y.entries) r (with_table parts t new) in
      let Q : ModuleParts → Type 0 = λ p. IfSome (slice_get p.tables t) (λ y. GrowsTable (module_view m) p unit t (f y) (length y.entries) r (with_table parts t new)) in
      subst Q same (at_place parts.tables t x read P (grows m parts unit t x new read r (length x.entries) (f x) h) (slice_get parts.tables t) refl)

  -- by a list v that is seen as items
  pub table_changes_by : {A : Type 0} (seen : A → List (Option Ref)) (lists : List A) (e : ℕ) (v : A) (f : TableInstance → List (Option Ref) → Option TableInstance) (items : List (Option Ref)) (r : Result (Unit {0}) Trap)
      → parts.elems ≡ map seen lists → v ≡ get_or lists e v → items ≡ seen v → ChangesOrTraps TableBounds x (f x items) r new
      → IfSome (slice_get now.tables t) (λ y. IfSome (slice_get now.elems e) (λ i. ChangesTable (module_view m) now unit t (f y i) r (with_table parts t new)))
  table_changes_by seen lists e v f items r elems found is h =
      let E : List (Option Ref) → Type 0 = λ i. ChangesTable (module_view m) parts unit t (f x i) r (with_table parts t new) in
      let here : E (seen v) = subst E is (changes m parts unit t x new read r (f x items) h) in
      let there : IfSome (slice_get parts.elems e) E = subst (λ (es : List (List (Option Ref))). IfSome (slice_get es e) E) (sym elems) (at_mapped_place seen lists e v found E here (slice_get (map seen lists) e) refl) in
      let P : TableInstance → Type 0 = λ y. IfSome (slice_get parts.elems e) (λ i. ChangesTable (module_view m) parts unit t (f y i) r (with_table parts t new)) in
      let Q : ModuleParts → Type 0 = λ p. IfSome (slice_get p.tables t) (λ y. IfSome (slice_get p.elems e) (λ i. ChangesTable (module_view m) p unit t (f y i) r (with_table parts t new))) in
      subst Q same (at_place parts.tables t x read P there (slice_get parts.tables t) refl)
