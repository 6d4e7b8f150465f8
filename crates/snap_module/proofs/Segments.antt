-- What the segments of the module have, before they are applied.
use Rattle.std.proofs.Common.{◌≡◌, ℕ, suc, ◌+◌, List, [], ◌∷◌, ◌++◌, length, map, Option, refl, sym, ap, ap₂, ◌∙◌, inl, inr}
use Rattle.std.specs.Prelude.{◌⊎◌}
use Rattle.std.specs.List.{All}
use Rattle.std.proofs.lemmas.List.{map-append}
use Rattle.std.proofs.lemmas.List.Elements.{All-head, All-tail}
use Rattle.spec_loading.specs.wasm_form.declared.types.TableType.{TableType}
use Rattle.spec_loading.specs.wasm_form.declared.module.ElemMode.{ElemMode}
use Rattle.spec_loading.specs.wasm_form.declared.module.ElemMode.TheVariants as elem_mode
use Rattle.spec_loading.specs.wasm_form.declared.module.Elem.{Elem}
use Rattle.spec_loading.specs.wasm_form.declared.module.Data.{Data}
use Rattle.spec_loading.specs.wasm_form.declared.module.Module.{Module}
use Rattle.spec_loading.specs.wasm_form.declared.runtime.Ref.{Ref}
use Rattle.spec_loading.specs.spec_runtime.Tables.{TableInstance}
use Rattle.spec_loading.specs.spec_execution.Segments.{opened_items}
use Rattle.spec_loading.specs.spec_execution.Instances.{segment_items}
use Rattle.snap_module.specs.Held.{Stretch, held_elem, held_elems, passive_data, table_elem, table_elems, memory_data, IsReference, AreTables, AreElems}
use Rattle.snap_module.proofs.Lists.{items}
use Rattle.snap_module.proofs.Constants.{entries_opened}

-- the items of the stretches of tables, one after the other
abbrev pub table_items : List (List (Stretch (Option Ref))) → List (List (Option Ref))
table_items [] = []
table_items (ss ∷ more) = map items ss ++ table_items more

abbrev pub no_items : Elem → List (Option Ref)
no_items e = []

module _ (m : Module) where
  abbrev pub items_of : Elem → List (Option Ref)
  items_of = opened_items (segment_items m)

  items_held : (e : Elem) (x : List (Option Ref)) → (x ≡ []) ⊎ (x ≡ items_of e) → items_of (held_elem e x) ≡ x
  items_held e [] is = refl
  items_held e (r ∷ rs) (inl empty) = cc
  items_held e (r ∷ rs) (inr same) = go e.mode refl
    where
      go : (mode : ElemMode) → e.mode ≡ mode → segment_items m e.items ≡ r ∷ rs
      go (elem_mode.Active t offset) q = sym (same ∙ rw q refl)
      go elem_mode.Passive q = sym (same ∙ rw q refl)
      go elem_mode.Declarative q = (let none : r ∷ rs ≡ [] = same ∙ rw q refl in cc)

  pub elems_held : (es : List Elem) (xs : List (List (Option Ref))) → AreElems m es xs → map items_of (held_elems es xs) ≡ xs
  elems_held [] [] are = refl
  elems_held [] (x ∷ xs) are = absurd are
  elems_held (e ∷ es) [] are = absurd are
  elems_held (e ∷ es) (x ∷ xs) are = ap₂ (λ a l. a ∷ l) (items_held e x are.0) (elems_held es xs are.1)

  pub elems_many : (es : List Elem) (xs : List (List (Option Ref))) → AreElems m es xs → length (held_elems es xs) ≡ length xs
  elems_many [] [] are = refl
  elems_many [] (x ∷ xs) are = absurd are
  elems_many (e ∷ es) [] are = absurd are
  elems_many (e ∷ es) (x ∷ xs) are = ap suc (elems_many es xs are.1)

  abbrev AllReferences : Stretch (Option Ref) → Type 0
  AllReferences s = All (IsReference m) s.items

  table_opened : (t : ℕ) (ss : List (Stretch (Option Ref))) → All AllReferences ss → map items_of (map (table_elem t) ss) ≡ map items ss
  table_opened t [] all = refl
  table_opened t (s ∷ ss) all =
      ap₂ (λ a l. a ∷ l) (entries_opened m s.items (All-head AllReferences s ss all)) (table_opened t ss (All-tail AllReferences s ss all))

  pub tables_opened : (t : ℕ) (ts : List TableType) (xs : List TableInstance) (more : List (List (Stretch (Option Ref)))) → AreTables m ts xs more
      → map items_of (table_elems t more) ≡ table_items more
  tables_opened t [] [] [] are = refl
  tables_opened t (y ∷ ts) (x ∷ xs) (ss ∷ more) are =
      map-append items_of (map (table_elem t) ss) (table_elems (t + 1) more)
      ∙ ap₂ (λ a b. a ++ b) (table_opened t ss are.0.references) (tables_opened (t + 1) ts xs more are.1)
  tables_opened t _ _ _ are = absurd are

  pub bytes_held : (ds : List (List ℕ)) → map (λ (d : Data). d.bytes) (map passive_data ds) ≡ ds
  bytes_held [] = refl
  bytes_held (d ∷ ds) = ap (λ l. d ∷ l) (bytes_held ds)

  pub bytes_opened : (ss : List (Stretch ℕ)) → map (λ (d : Data). d.bytes) (map memory_data ss) ≡ map items ss
  bytes_opened [] = refl
  bytes_opened (s ∷ ss) = ap (λ l. s.items ∷ l) (bytes_opened ss)

pub emptied_elems : (t : ℕ) (ss : List (Stretch (Option Ref))) → map no_items (map (table_elem t) ss) ≡ map (λ (s : Stretch (Option Ref)). []) ss
emptied_elems t [] = refl
emptied_elems t (s ∷ ss) = ap (λ (l : List (List (Option Ref))). [] ∷ l) (emptied_elems t ss)
