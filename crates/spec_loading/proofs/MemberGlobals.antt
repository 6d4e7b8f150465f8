-- The type that a member gives a global is that of the global of the run that it is: an imported one is of 32 bits, since the set links.
use Rattle.std.proofs.Common.{◌≡◌, ℕ, ◌-◌, length, map, slice_get, Option, Some, None, true, false, refl, sym, ap, ◌∙◌, subst, arith}
use Rattle.std.specs.Prelude.{Bool, unwrap_or}
use Rattle.std.proofs.lemmas.Bool.{and_parts}
use Rattle.std.proofs.lemmas.Option.{slice_get_within}
use Rattle.spec_linking.specs.wasm_form.declared.types.ValType.TheVariants.{I32}
use Rattle.spec_linking.specs.wasm_form.declared.types.GlobalType.{GlobalType}
use Rattle.spec_linking.specs.wasm_form.declared.module.ImportDesc.TheVariants as imported
use Rattle.spec_linking.specs.wasm_form.declared.module.Import.{Import}
use Rattle.spec_linking.specs.wasm_form.declared.module.GlobalDef.{GlobalDef}
use Rattle.spec_linking.specs.wasm_form.declared.module.Module.{Module}
use Rattle.spec_linking.specs.spec_binary.Options.{◌>>=◌}
use Rattle.spec_linking.specs.spec_binary.SameTypes.{same_type}
use Rattle.spec_linking.specs.spec_binary.IndexSpaces.{imports_of, globals_in, type_of_global, global_space}
use Rattle.spec_linking.proofs.of_spec_binary.OneType.{one_type}
use Rattle.spec_linking.proofs.of_spec_binary.Lists.{slice_get-append-left, slice_get-append-right}
use Rattle.spec_linking.specs.declared.fault.Kind.TheVariants as kind
use Rattle.spec_linking.specs.Sets.{Member}
use Rattle.spec_linking.specs.Definitions.{imported_globals}
use Rattle.spec_linking.specs.Imports.{ImportUse, StackPointer, MemoryBase, TableBase, DataCell, SlotCell, use_of, importing, is_i32_global}
use Rattle.spec_linking.specs.LinkedSets.{LinkedSet, wasm_of, definition}
use Rattle.spec_linking.specs.Links.{unless, data_cell_fault, slot_cell_fault, fault_as, Links}
use Rattle.spec_linking.proofs.Importing.{importing_length}
use Rattle.spec_linking.proofs.LinkedFacts.{or_none, holds_so, linked_member}
use Rattle.spec_safety.proofs.Lookups.{went_on}
use Rattle.spec_loading.specs.RunItems.{RunGlobal, SharedStackPointer, MemberMemoryBase, MemberTableBase, MemberCell, MemberGlobal, imported_as, run_global_with, run_global, run_global_type}
use Rattle.spec_loading.proofs.NumberedImports.{none_past, global_import}
use Rattle.spec_loading.proofs.OpeningValues.{mapped}

i32_global : (may : Bool) (ty : GlobalType) → is_i32_global may (imported.Global ty) ≡ true → ty.value ≡ I32
i32_global may ty e = one_type ty.value I32 (and_parts (same_type ty.value I32) _ e).0

module _ (L : LinkedSet) (m : ℕ) (member : Member) (at : slice_get L.set.members m ≡ Some member) where
  abbrev wasm : Module
  wasm = member.wasm

  here : wasm_of L m ≡ Some wasm
  here = ap (λ (o : Option Member). o >>= λ y. Some y.wasm) at

  -- that of a global that the member defines
  pub own_global_type : (k : ℕ) (g : GlobalDef) → slice_get wasm.globals k ≡ Some g → run_global_type L (MemberGlobal m k) ≡ g.ty.value
  own_global_type k g e =
      ap (λ (o : Option Module). unwrap_or (o >>= λ w. slice_get w.globals k >>= λ x. Some x.ty.value) I32) here
      ∙ ap (λ (o : Option GlobalDef). unwrap_or (o >>= λ x. Some x.ty.value) I32) e

  -- that of one that an import is
  pub imported_type : (i : Import) (ty : GlobalType) → i.desc ≡ imported.Global ty → (u : ImportUse) (x : RunGlobal) → imported_as m i u ≡ Some x
      → fault_as L m wasm i u ≡ None → run_global_type L x ≡ ty.value
  imported_type i ty d u x e none = kind_of u e none
    where
      told : (may : Bool) → is_i32_global may i.desc ≡ true → (y : RunGlobal) → run_global_type L y ≡ I32 → Some y ≡ Some x
          → run_global_type L x ≡ ty.value
      told may so y number is =
          let same : y ≡ x = cc in
          ap (run_global_type L) (sym same) ∙ number ∙ sym (i32_global may ty (subst (λ k. is_i32_global may k ≡ true) d so))

      kind_of : (u : ImportUse) → imported_as m i u ≡ Some x → fault_as L m wasm i u ≡ None → run_global_type L x ≡ ty.value
      kind_of StackPointer is fine = told true (holds_so (is_i32_global true i.desc) _ fine) SharedStackPointer refl is
      kind_of MemoryBase is fine = told false (holds_so (is_i32_global false i.desc) _ fine) (MemberMemoryBase m) refl is
      kind_of TableBase is fine = told false (holds_so (is_i32_global false i.desc) _ fine) (MemberTableBase m) refl is
      kind_of DataCell is fine =
          let form = (or_none (unless (is_i32_global true i.desc) _) (data_cell_fault m i.field (definition L m kind.Mem i.field)) fine).0 in
          told true (holds_so (is_i32_global true i.desc) _ form) (MemberCell m (kind.Mem, i.field)) refl is
      kind_of SlotCell is fine =
          let form = (or_none (unless (is_i32_global true i.desc) _) (slot_cell_fault m i.field (definition L m kind.Func i.field)) fine).0 in
          told true (holds_so (is_i32_global true i.desc) _ form) (MemberCell m (kind.Func, i.field)) refl is
      kind_of _ is fine = absurd cc

  pub global_type : Links L → (g : ℕ) (ty : GlobalType) (x : RunGlobal) → slice_get (global_space wasm) g ≡ Some ty → run_global L m g ≡ Some x
      → run_global_type L x ≡ ty.value
  global_type links g ty x e is = go (slice_get (importing globals_in wasm.imports) g) refl
    where
      with_import : run_global L m g ≡ run_global_with m wasm g (slice_get (importing globals_in wasm.imports) g)
      with_import = ap (λ (o : Option Module). o >>= λ w. run_global_with m w g (slice_get (importing globals_in w.imports) g)) here

      many : length (importing globals_in wasm.imports) ≡ length (imports_of globals_in wasm.imports)
      many = importing_length globals_in wasm.imports

      is_with : (o : Option Import) → slice_get (importing globals_in wasm.imports) g ≡ o → run_global_with m wasm g o ≡ Some x
      is_with o q = ap (run_global_with m wasm g) (sym q) ∙ sym with_import ∙ is

      go : (o : Option Import) → slice_get (importing globals_in wasm.imports) g ≡ o → run_global_type L x ≡ ty.value
      go None q =
          let past = none_past (importing globals_in wasm.imports) g q in
          let count = many in
          let k = g - imported_globals wasm in
          let own = sym (slice_get-append-right (imports_of globals_in wasm.imports) (map type_of_global wasm.globals) g (omega arith)) ∙ e in
          let def = went_on (slice_get wasm.globals k) (λ y. Some y.ty) ty (sym (mapped type_of_global wasm.globals k) ∙ own) in
          let same : MemberGlobal m k ≡ x = (let w = is_with None q in cc) in
          let typed : def.0.ty ≡ ty = (let w = def.2 in cc) in
          ap (run_global_type L) (sym same) ∙ own_global_type k def.0 def.1 ∙ ap (λ (t : GlobalType). t.value) typed
      go (Some i) q =
          let lt = slice_get_within (importing globals_in wasm.imports) g i q in
          let count = many in
          let first = sym (slice_get-append-left (imports_of globals_in wasm.imports) (map type_of_global wasm.globals) g (omega arith)) ∙ e in
          let found = global_import wasm.imports g ty first in
          let same : found.«import» ≡ i = (let w = sym found.numbered ∙ q in cc) in
          let desc : i.desc ≡ imported.Global ty = subst (λ (j : Import). j.desc ≡ imported.Global ty) same found.desc in
          let stands : slice_get wasm.imports found.place ≡ Some i = found.at ∙ ap Some same in
          imported_type i ty desc (use_of i) x (is_with (Some i) q) ((linked_member L m member links at).imports found.place i stands)
