-- The imported tables of a member of a linked set are tables of functions.
use Rattle.std.proofs.Common.{◌≡◌, ℕ, zero, suc, Bool, true, false, List, [], ◌∷◌, ◌++◌, slice_get, Some, None, refl, sym, ap, ◌∙◌, subst}
use Rattle.spec_reading.specs.wasm_form.declared.types.ValType.TheVariants.{FuncRef}
use Rattle.spec_reading.specs.wasm_form.declared.types.TableType.{TableType}
use Rattle.spec_reading.specs.wasm_form.declared.module.ImportDesc.{ImportDesc}
use Rattle.spec_reading.specs.wasm_form.declared.module.ImportDesc.TheVariants as imported
use Rattle.spec_reading.specs.wasm_form.declared.module.Import.{Import}
use Rattle.spec_reading.specs.spec_binary.IndexSpaces.{imports_of, tables_in}
use Rattle.spec_reading.specs.spec_binary.SameTypes.{same_type}
use Rattle.spec_loading.specs.spec_linking.declared.fault.Kind.TheVariants as kind
use Rattle.spec_loading.specs.spec_linking.declared.fault.LinkFault.TheVariants.{IllTyped}
use Rattle.spec_loading.specs.spec_linking.Sets.{Member}
use Rattle.spec_loading.specs.spec_linking.Imports.{ImportUse, SharedMemory, SharedTable, StackPointer, MemoryBase, TableBase, DataCell, SlotCell, EnvFunction, ModuleFunction, OtherUse, use_of, is_memory, is_function_table, is_i32_global}
use Rattle.spec_loading.specs.spec_linking.LinkedSets.{LinkedSet, definition}
use Rattle.spec_loading.specs.spec_linking.Links.{unless, data_cell_fault, slot_cell_fault, fault_as, Links}
use Rattle.spec_loading.proofs.of_spec_linking.LinkedFacts.{holds_so, or_none, linked_member}
use Rattle.merge_module.proofs.ImportedGlobals.{IsFitting, use_fits}

-- an import that gives a table
pub record TableImport (is : List Import) (ty : TableType) : Type 0 where
  pub «import» : Import
  pub place : ℕ
  pub at : slice_get is place ≡ Some «import»
  pub desc : «import».desc ≡ imported.Table ty

pub table_import : (is : List Import) (t : ℕ) (ty : TableType) → slice_get (imports_of tables_in is) t ≡ Some ty → TableImport is ty
table_import [] t ty e = absurd cc
table_import (i ∷ is) t ty e = go i.desc refl t e (λ k h. table_import is k ty h)
  where
    later : TableImport is ty → TableImport (i ∷ is) ty
    later found = record { «import» = found.«import»; place = suc found.place; at = found.at; desc = found.desc }

    go : (d : ImportDesc) → i.desc ≡ d → (t : ℕ) → slice_get (tables_in d ++ imports_of tables_in is) t ≡ Some ty
        → ((k : ℕ) → slice_get (imports_of tables_in is) k ≡ Some ty → TableImport is ty) → TableImport (i ∷ is) ty
    go (imported.Func k) q t h more = later (more t h)
    go (imported.Space limits) q t h more = later (more t h)
    go (imported.Global u) q t h more = later (more t h)
    go (imported.Table u) q zero h more =
        let same : u ≡ ty = cc in
        record { «import» = i; place = 0; at = refl; desc = q ∙ ap imported.Table same }
    go (imported.Table u) q (suc k) h more = later (more k h)

no_global : (may : Bool) (d : ImportDesc) (ty : TableType) → d ≡ imported.Table ty → is_i32_global may d ≡ true → ⊥
no_global may d ty e h = (let no_so : is_i32_global may d ≡ false = ap (is_i32_global may) e in cc)

module _ (L : LinkedSet) (links : Links L) (m : ℕ) (member : Member) (at : slice_get L.set.members m ≡ Some member) where
  form : (i : Import) (ty : TableType) → i.desc ≡ imported.Table ty → (u : ImportUse) → IsFitting i u → fault_as L m member.wasm i u ≡ None → same_type ty.elem FuncRef ≡ true
  form i ty d SharedTable fits none = subst (λ k. is_function_table k ≡ true) d (holds_so (is_function_table i.desc) (IllTyped m kind.Other i.field) none)
  form i ty d SharedMemory fits none = absurd (let so = holds_so (is_memory i.desc) (IllTyped m kind.Other i.field) none in let no_so : is_memory i.desc ≡ false = ap is_memory d in cc)
  form i ty d StackPointer fits none = absurd (no_global true i.desc ty d (holds_so (is_i32_global true i.desc) (IllTyped m kind.Other i.field) none))
  form i ty d MemoryBase fits none = absurd (no_global false i.desc ty d (holds_so (is_i32_global false i.desc) (IllTyped m kind.Other i.field) none))
  form i ty d TableBase fits none = absurd (no_global false i.desc ty d (holds_so (is_i32_global false i.desc) (IllTyped m kind.Other i.field) none))
  form i ty d DataCell fits none =
      let one = (or_none (unless (is_i32_global true i.desc) (IllTyped m kind.Mem i.field)) (data_cell_fault m i.field (definition L m kind.Mem i.field)) none).0 in
      absurd (no_global true i.desc ty d (holds_so (is_i32_global true i.desc) (IllTyped m kind.Mem i.field) one))
  form i ty d SlotCell fits none =
      let one = (or_none (unless (is_i32_global true i.desc) (IllTyped m kind.Func i.field)) (slot_cell_fault m i.field (definition L m kind.Func i.field)) none).0 in
      absurd (no_global true i.desc ty d (holds_so (is_i32_global true i.desc) (IllTyped m kind.Func i.field) one))
  form i ty d (EnvFunction t) fits none = absurd (let q = sym fits ∙ d in cc)
  form i ty d (ModuleFunction t) fits none = absurd (let q = sym fits ∙ d in cc)
  form i ty d OtherUse fits none = absurd cc

  pub imported_table : (t : ℕ) (ty : TableType) → slice_get (imports_of tables_in member.wasm.imports) t ≡ Some ty → same_type ty.elem FuncRef ≡ true
  imported_table t ty e =
      let i = table_import member.wasm.imports t ty e in
      form i.«import» ty i.desc (use_of i.«import») (use_fits i.«import») ((linked_member L m member links at).imports i.place i.«import» i.at)
