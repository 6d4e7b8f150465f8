-- What becomes of the store where one of its tables changes.
use Rattle.std.proofs.Common.{◌≡◌, ℕ, ◌<◌, List, map, length, get_or, refl, ap, ◌∙◌, sym, subst, Ok, Err}
use Rattle.std.specs.Prelude.{None, Some, Option, slice_get, slice_set, Result, IfSome}
use Rattle.std.proofs.lemmas.List.{set-get_or, length-map, get_or-map}
use Rattle.std.proofs.lemmas.Option.{get_or_from_slice_get, slice_get_within}
use Rattle.wasm_form.specs.declared.Memory.{Memory}
use Rattle.wasm_form.specs.declared.runtime.Ref.{Ref}
use Rattle.wasm_form.specs.declared.runtime.Trap.{Trap}
use Rattle.wasm_form.specs.declared.runtime.Trap.TheVariants.{TableBounds}
use Rattle.spec_loading.specs.spec_binary.Options.{◌>>=◌}
use Rattle.spec_loading.specs.spec_runtime.Tables.{TableInstance}
use Rattle.spec_loading.specs.spec_execution.Instances.{ModuleParts, Instances, set_at, store_view}
use Rattle.wasm_space.specs.Access.{ChangesOrTraps, GrowsOrStays}
use Rattle.wasm_view.specs.Tables.{ChangesTable, GrowsTable}

abbrev with_table : ModuleParts → ℕ → TableInstance → ModuleParts
with_table us a new = record us { tables = slice_set us.tables a new }

-- what holds of what was read holds of what is found in its place
at_place : {A : Type 0} (xs : List A) (i : ℕ) (x : A) → x ≡ get_or xs i x → (P : A → Type 0) → P x → (found : Option A) → slice_get xs i ≡ found → IfSome found P
at_place xs i x read P h None is = tt
at_place xs i x read P h (Some y) is = subst P (read ∙ get_or_from_slice_get xs i y x is) h

at_mapped_place : {A B : Type 0} (f : A → B) (xs : List A) (i : ℕ) (x : A) → x ≡ get_or xs i x → (P : B → Type 0) → P (f x) → (found : Option B) → slice_get (map f xs) i ≡ found → IfSome found P
at_mapped_place f xs i x read P h None is = tt
at_mapped_place f xs i x read P h (Some y) is =
    let inside : i < length xs = rw (length-map xs f) at (slice_get_within (map f xs) i y is) in
    subst P (ap f read ∙ sym (get_or-map f xs i x y inside) ∙ get_or_from_slice_get (map f xs) i y y is) h

-- the same where the place is an address
at_address : {A : Type 0} (o : Option ℕ) (a : ℕ) (xs : List A) (P : A → Type 0) → o ≡ Some a → IfSome (slice_get xs a) P → IfSome (o >>= slice_get xs) P
at_address o a xs P at h = subst (λ (x : Option ℕ). IfSome (x >>= slice_get xs) P) (sym at) h

-- the table x at an address became another
module _ (I : Instances) (us : ModuleParts) (m t a : ℕ) (at : I.table_at m t ≡ Some a) (x new : TableInstance) (read : x ≡ get_or us.tables a x) where
  stays : new ≡ x → with_table us a new ≡ us
  stays same = ap (λ (ts : List TableInstance). record us { tables = ts }) (ap (slice_set us.tables a) (same ∙ read) ∙ set-get_or us.tables a x)

  set_is : (y : TableInstance) → with_table us a y ≡ (store_view I).set_table us m t y
  set_is y = ap (λ (o : Option ℕ). record us { tables = set_at us.tables o y }) (sym at)

  changes : (r : Result (Unit {0}) Trap) (wanted : Option TableInstance) → ChangesOrTraps TableBounds x wanted r new → ChangesTable (store_view I) us m t wanted r (with_table us a new)
  changes r None h = (h.0, stays h.1)
  changes r (Some y) h = (h.0, ap (with_table us a) h.1 ∙ set_is y)

  grows : (r : Result ℕ Memory) (size : ℕ) (wanted : Option TableInstance) → GrowsOrStays x wanted size r new → GrowsTable (store_view I) us m t wanted size r (with_table us a new)
  grows r size None h = (h.0, stays h.1)
  grows (Ok answer) size (Some y) h = (h.0, ap (with_table us a) h.1 ∙ set_is y)
  grows (Err e) size (Some y) h = stays h

module _ (I : Instances) (us now : ModuleParts) (same : us ≡ now) (m t a : ℕ) (at : I.table_at m t ≡ Some a) (x new : TableInstance) (read : x ≡ get_or us.tables a x) where
  pub table_changes : (f : TableInstance → Option TableInstance) (r : Result (Unit {0}) Trap) → ChangesOrTraps TableBounds x (f x) r new
      → IfSome ((store_view I).table now m t) (λ y. ChangesTable (store_view I) now m t (f y) r (with_table us a new))
  table_changes f r h =
      let P : TableInstance → Type 0 = λ y. ChangesTable (store_view I) us m t (f y) r (with_table us a new) in
      let Q : ModuleParts → Type 0 = λ p. IfSome ((store_view I).table p m t) (λ y. ChangesTable (store_view I) p m t (f y) r (with_table us a new)) in
      subst Q same (at_address (I.table_at m t) a us.tables P at (at_place us.tables a x read P (changes I us m t a at x new read r (f x) h) (slice_get us.tables a) refl))

  pub table_grows : (f : TableInstance → Option TableInstance) (r : Result ℕ Memory) → GrowsOrStays x (f x) (length x.entries) r new
      → IfSome ((store_view I).table now m t) (λ y. GrowsTable (store_view I) now m t (f y) (length y.entries) r (with_table us a new))
  table_grows f r h =
      let P : TableInstance → Type 0 = λ y. GrowsTable (store_view I) us m t (f y) (length y.entries) r (with_table us a new) in
      let Q : ModuleParts → Type 0 = λ p. IfSome ((store_view I).table p m t) (λ y. GrowsTable (store_view I) p m t (f y) (length y.entries) r (with_table us a new)) in
      subst Q same (at_address (I.table_at m t) a us.tables P at (at_place us.tables a x read P (grows I us m t a at x new read r (length x.entries) (f x) h) (slice_get us.tables a) refl))

  -- by a list v that is seen as items
  pub table_changes_by : {A : Type 0} (seen : A → List (Option Ref)) (lists : List A) (e b : ℕ) (v : A) (f : TableInstance → List (Option Ref) → Option TableInstance) (items : List (Option Ref)) (r : Result (Unit {0}) Trap)
      → I.elem_at m e ≡ Some b → us.elems ≡ map seen lists → v ≡ get_or lists b v → items ≡ seen v → ChangesOrTraps TableBounds x (f x items) r new
      → IfSome ((store_view I).table now m t) (λ y. IfSome ((store_view I).elem now m e) (λ i. ChangesTable (store_view I) now m t (f y i) r (with_table us a new)))
  table_changes_by seen lists e b v f items r elem elems found is h =
      let E : List (Option Ref) → Type 0 = λ i. ChangesTable (store_view I) us m t (f x i) r (with_table us a new) in
      let here : E (seen v) = subst E is (changes I us m t a at x new read r (f x items) h) in
      let there : IfSome (slice_get us.elems b) E = subst (λ (es : List (List (Option Ref))). IfSome (slice_get es b) E) (sym elems) (at_mapped_place seen lists b v found E here (slice_get (map seen lists) b) refl) in
      let P : TableInstance → Type 0 = λ y. IfSome ((store_view I).elem us m e) (λ i. ChangesTable (store_view I) us m t (f y i) r (with_table us a new)) in
      let Q : ModuleParts → Type 0 = λ p. IfSome ((store_view I).table p m t) (λ y. IfSome ((store_view I).elem p m e) (λ i. ChangesTable (store_view I) p m t (f y i) r (with_table us a new))) in
      subst Q same (at_address (I.table_at m t) a us.tables P at (at_place us.tables a x read P (at_address (I.elem_at m e) b us.elems E elem there) (slice_get us.tables a) refl))
