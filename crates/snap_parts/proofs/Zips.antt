-- Lists side by side, item by item.
use Rattle.std.proofs.Common.{◌≡◌, ℕ, zero, suc, ◌-◌, ◌<◌, ◌≤◌, List, [], ◌∷◌, ◌++◌, length, drop, map, refl, sym, ap, ap₂, ◌∙◌, arith}
use Rattle.std.specs.Prelude.{◌⊎◌, Option, min}
use Rattle.std.proofs.Common.{inl, inr}
use Rattle.std.proofs.lemmas.List.{length-map, drop_all, append-nil}
use Rattle.spec_loading.specs.wasm_form.declared.types.TableType.{TableType}
use Rattle.spec_loading.specs.wasm_form.declared.module.GlobalDef.{GlobalDef}
use Rattle.spec_loading.specs.wasm_form.declared.module.Elem.{Elem}
use Rattle.spec_loading.specs.wasm_form.declared.runtime.Ref.{Ref}
use Rattle.spec_loading.specs.wasm_form.declared.runtime.Value.{Value}
use Rattle.spec_loading.specs.spec_runtime.Tables.{TableInstance}
use Rattle.merge_match.specs.Renumbering.{Numbers, entry, table_instance}
use Rattle.snap_module.specs.Held.{held_elem, held_elems, held_globals, held_tables, held_table, below}
use Rattle.snap_parts.proofs.Order.{below_or}
use Rattle.snap_parts.specs.Zips.{zip_by, global_by, table_by, elem_by, is_left}

module _ {A B C : Type 0} (f : A → B → C) (xs : List A) (ys : List B) where
  zip_nothing : (l : List A) (m : List B) → (l ≡ []) ⊎ (m ≡ []) → zip_by f l m ≡ []
  zip_nothing l m (inl none) = ap (λ a. zip_by f a m) none
  zip_nothing [] m (inr none) = refl
  zip_nothing (x ∷ l) m (inr none) = ap (λ b. zip_by f (x ∷ l) b) none

  -- and none behind the last of either
  pub zip_all : (k : ℕ) → min (length xs) (length ys) ≤ k → (done : List C) → done ++ zip_by f (drop k xs) (drop k ys) ≡ zip_by f xs ys
      → done ≡ zip_by f xs ys
  zip_all k le done before = sym (append-nil done) ∙ ap (λ l. done ++ l) (sym (zip_nothing (drop k xs) (drop k ys) (ends (either (below_or k (length xs)))))) ∙ before
    where
      either : (k < length xs) ⊎ (length xs ≤ k) → (length xs ≤ k) ⊎ (length ys ≤ k)
      either (inl more) = inr (omega arith)
      either (inr all) = inl all

      ends : (length xs ≤ k) ⊎ (length ys ≤ k) → (drop k xs ≡ []) ⊎ (drop k ys ≡ [])
      ends (inl first) = inl (drop_all k xs first)
      ends (inr second) = inr (drop_all k ys second)

-- ---- the parts of the module are such lists

pub globals_zipped : (gs : List GlobalDef) (vs : List Value) → zip_by global_by gs vs ≡ held_globals gs vs
globals_zipped [] vs = refl
globals_zipped (g ∷ gs) [] = refl
globals_zipped (g ∷ gs) (v ∷ vs) = ap (λ l. global_by g v ∷ l) (globals_zipped gs vs)

same_size : (n : Numbers) (t : TableType) (x : TableInstance) → held_table t x ≡ held_table t (table_instance n x)
same_size n t x = ap (λ k. record t { limits = record { min = k; max = t.limits.max } }) (sym (length-map x.entries (entry n)))

pub tables_zipped : (n : Numbers) (ts : List TableType) (xs : List TableInstance)
    → zip_by table_by ts xs ≡ held_tables ts (map (table_instance n) xs)
tables_zipped n [] xs = refl
tables_zipped n (t ∷ ts) [] = refl
tables_zipped n (t ∷ ts) (x ∷ xs) = ap₂ (λ a l. a ∷ l) (same_size n t x) (tables_zipped n ts xs)

elem_left : (e : Elem) (x : List (Option Ref)) → elem_by e (is_left x) ≡ held_elem e x
elem_left e [] = refl
elem_left e (r ∷ rs) = refl

pub elems_zipped : (es : List Elem) (xs : List (List (Option Ref))) → zip_by elem_by es (map is_left xs) ≡ held_elems es xs
elems_zipped [] xs = refl
elems_zipped (e ∷ es) [] = refl
elems_zipped (e ∷ es) (x ∷ xs) = ap₂ (λ a l. a ∷ l) (elem_left e x) (elems_zipped es xs)

-- the numbers below one
pub below_next : (k : ℕ) → 0 < k → below k ≡ (k - 1) ∷ below (k - 1)
below_next zero lt = absurd (omega arith)
below_next (suc k) lt = (let same : k ≡ suc k - 1 = omega arith in ap (λ j. j ∷ below j) same)
