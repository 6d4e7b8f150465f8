-- A module of these parts is the merged module.
use Rattle.std.proofs.Common.{◌≡◌, ℕ, ◌+◌, ◌*◌, ◌-◌, List, [], ◌∷◌, length, Option, Some, None, ap, ap₂, ◌∙◌, arith}
use Rattle.wasm_form.specs.declared.types.FuncType.{FuncType}
use Rattle.wasm_form.specs.declared.types.Limits.{Limits}
use Rattle.wasm_form.specs.declared.types.TableType.{TableType}
use Rattle.wasm_form.specs.declared.module.Import.{Import}
use Rattle.wasm_form.specs.declared.module.GlobalDef.{GlobalDef}
use Rattle.wasm_form.specs.declared.module.Export.{Export}
use Rattle.wasm_form.specs.declared.module.Elem.{Elem}
use Rattle.wasm_form.specs.declared.module.Code.{Code}
use Rattle.wasm_form.specs.declared.module.Data.{Data}
use Rattle.wasm_form.specs.declared.module.Custom.{Custom}
use Rattle.wasm_form.specs.declared.module.Module.{Module}
use Rattle.spec_loading.specs.spec_linking.LinkedSets.{LinkedSet}
use Rattle.spec_loading.specs.declared.task.Phase.TheVariants.{Place}
use Rattle.merge_start.specs.declared.numbers.StartNumbers.{StartNumbers}
use Rattle.merge_start.specs.Listed.{AreListed}
use Rattle.merge_index.specs.Numbering.{first_phase, loader_size, numbers_of, starts_of}
use Rattle.merge_module.specs.MergedModule.{merged_types, merged_imports, merged_funcs, merged_tables, shared_memory_type, merged_globals, entry_exports, merged_elems, merged_codes, merged_datas, merged_module}

pub starting_is : (L : LinkedSet) (s : StartNumbers) → AreListed L s (numbers_of L) (starts_of L) → (n : ℕ)
    → n ≡ s.first_function + 4 * length L.set.members + loader_size L → n ≡ (starts_of L).starting
starting_is L s listed n is =
    let same : first_phase L + 4 * 0 + (1 - 1) ≡ s.first_function + 4 * 0 + (1 - 1) = listed.phases 0 Place in
    let e : n ≡ first_phase L + 4 * length L.set.members + loader_size L = omega arith in
    e

abbrev made : List FuncType → List Import → List ℕ → List TableType → List Limits → List GlobalDef → List Export → List Elem → ℕ → List Code
    → List Data → List Custom → Option ℕ → Module
made types imports funcs tables memories globals exports elems count codes datas customs start = record {
  types = types;
  imports = imports;
  funcs = funcs;
  tables = tables;
  memories = memories;
  globals = globals;
  exports = exports;
  start = start;
  elems = elems;
  data_count = Some count;
  codes = codes;
  datas = datas;
  customs = customs;
}

module _ (L : LinkedSet) (types : List FuncType) (imports : List Import) (funcs : List ℕ) (tables : List TableType) (memories : List Limits)
    (globals : List GlobalDef) (exports : List Export) (elems : List Elem) (count : ℕ) (codes : List Code) (datas : List Data)
    (customs : List Custom) (start : Option ℕ) where
  pub whole_is : types ≡ merged_types L → imports ≡ merged_imports L → funcs ≡ merged_funcs L (numbers_of L) → tables ≡ merged_tables L
      → memories ≡ shared_memory_type L ∷ [] → globals ≡ merged_globals L (numbers_of L) → exports ≡ entry_exports (starts_of L).starting
      → elems ≡ merged_elems L (numbers_of L) → count ≡ length datas → codes ≡ merged_codes L (numbers_of L) (starts_of L)
      → datas ≡ merged_datas L → customs ≡ [] → start ≡ None
      → made types imports funcs tables memories globals exports elems count codes datas customs start ≡ merged_module L
  whole_is a b c d e f g h i j k l m =
      ap (λ x. made x imports funcs tables memories globals exports elems count codes datas customs start) a
      ∙ ap (λ x. made (merged_types L) x funcs tables memories globals exports elems count codes datas customs start) b
      ∙ ap (λ x. made (merged_types L) (merged_imports L) x tables memories globals exports elems count codes datas customs start) c
      ∙ ap₂ (λ x y. made (merged_types L) (merged_imports L) (merged_funcs L (numbers_of L)) x y globals exports elems count codes datas customs start) d e
      ∙ ap₂ (λ x y. made (merged_types L) (merged_imports L) (merged_funcs L (numbers_of L)) (merged_tables L) (shared_memory_type L ∷ []) x y elems count codes datas customs start) f g
      ∙ ap₂ (λ x y. made (merged_types L) (merged_imports L) (merged_funcs L (numbers_of L)) (merged_tables L) (shared_memory_type L ∷ []) (merged_globals L (numbers_of L)) (entry_exports (starts_of L).starting) x y codes datas customs start) h (i ∙ ap length k)
      ∙ ap₂ (λ x y. made (merged_types L) (merged_imports L) (merged_funcs L (numbers_of L)) (merged_tables L) (shared_memory_type L ∷ []) (merged_globals L (numbers_of L)) (entry_exports (starts_of L).starting) (merged_elems L (numbers_of L)) (length (merged_datas L)) x y customs start) j k
      ∙ ap₂ (λ x y. made (merged_types L) (merged_imports L) (merged_funcs L (numbers_of L)) (merged_tables L) (shared_memory_type L ∷ []) (merged_globals L (numbers_of L)) (entry_exports (starts_of L).starting) (merged_elems L (numbers_of L)) (length (merged_datas L)) (merged_codes L (numbers_of L) (starts_of L)) (merged_datas L) x y) l m
