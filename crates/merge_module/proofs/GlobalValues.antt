-- The globals of members begin with values of their types, and those of the merged module with the same values, by the numbers.
use Rattle.std.proofs.Common.{◌≡◌, ℕ, ◌+◌, ◌^◌, ◌<◌, ◌≤◌, Bool, true, false, List, length, slice_get, Option, Some, None, refl, sym, ap, ◌∙◌, subst, arith, if◌then◌else◌}
use Rattle.std.specs.Prelude.{unwrap_or, not}
use Rattle.std.specs.Int.{cast_unsigned, w32, w64}
use Rattle.std.proofs.lemmas.Bool.{ltb-true, and_parts}
use Rattle.std.proofs.lemmas.List.{length-map}
use Rattle.std.proofs.lemmas.Option.{slice_get_within}
use Rattle.spec_reading.specs.wasm_form.declared.types.ValType.{ValType}
use Rattle.spec_reading.specs.wasm_form.declared.types.ValType.TheVariants.{I32, I64, FuncRef}
use Rattle.spec_reading.specs.wasm_form.declared.types.GlobalType.{GlobalType}
use Rattle.spec_reading.specs.wasm_form.declared.instr.Instr.{Instr, out-Instr}
use Rattle.spec_reading.specs.wasm_form.declared.instr.Instr.TheOpen as Open
use Rattle.spec_reading.specs.wasm_form.declared.instr.Expr.{Expr}
use Rattle.spec_reading.specs.wasm_form.declared.module.ImportDesc.TheVariants as imported
use Rattle.spec_reading.specs.wasm_form.declared.module.Import.{Import}
use Rattle.spec_reading.specs.wasm_form.declared.module.GlobalDef.{GlobalDef}
use Rattle.spec_reading.specs.wasm_form.declared.module.Module.{Module}
use Rattle.spec_reading.specs.wasm_form.declared.runtime.Ref.{Ref}
use Rattle.spec_reading.specs.wasm_form.declared.index.IndexForm.{IndexForm}
use Rattle.spec_reading.specs.wasm_form.declared.index.IndexForm.TheVariants.{RefFunc, GlobalGet}
use Rattle.spec_reading.specs.wasm_form.Index.{index_form}
use Rattle.spec_reading.specs.wasm_form.declared.runtime.Value.{Value}
use Rattle.spec_reading.specs.wasm_form.declared.runtime.Value.TheVariants.{Num, Func}
use Rattle.spec_reading.specs.spec_binary.Options.{◌>>=◌}
use Rattle.spec_reading.specs.spec_binary.SameTypes.{same_type}
use Rattle.spec_reading.specs.spec_binary.IndexSpaces.{imports_of, globals_in, function_space}
use Rattle.spec_reading.proofs.of_spec_binary.OneType.{one_type}
use Rattle.spec_loading.specs.spec_validation.Faults.{is_function, immutable, constant_index, constant_step, is_constant, global_fits}
use Rattle.spec_loading.specs.spec_runtime.Constants.{index_constant, instruction_constant, constant_of}
use Rattle.spec_loading.specs.spec_runtime.Numerics.{Width, W32, W64, bits}
use Rattle.spec_loading.specs.spec_execution.Values.{zero_of}
use Rattle.spec_loading.specs.spec_linking.Sets.{Member}
use Rattle.spec_loading.specs.spec_linking.Imports.{ImportUse, SharedMemory, SharedTable, StackPointer, MemoryBase, TableBase, DataCell, SlotCell, EnvFunction, ModuleFunction, OtherUse, use_of, importing, is_memory, is_function_table, is_i32_global}
use Rattle.spec_loading.specs.spec_linking.LinkedSets.{LinkedSet, wasm_of, definition, function_ref}
use Rattle.spec_loading.specs.spec_linking.Plans.{region_of, regions_of, texts_size}
use Rattle.spec_loading.specs.spec_linking.Slots.{linked_plan, memory_base, table_base, base_as, base_value, imported_base}
use Rattle.spec_loading.specs.spec_linking.Links.{unless, data_cell_fault, slot_cell_fault, fault_as}
use Rattle.spec_loading.specs.spec_linking.declared.fault.Kind.TheVariants as kind
use Rattle.spec_loading.specs.spec_linking.declared.fault.LinkFault.TheVariants.{IllTyped}
use Rattle.spec_loading.proofs.of_spec_binary.Counted.{Holds, held}
use Rattle.spec_loading.proofs.of_spec_execution.Constants.{width_type, typed_value}
use Rattle.spec_loading.proofs.of_spec_linking.LinkedFacts.{holds_so, or_none, linked_member}
use Rattle.spec_loading.proofs.of_spec_linking.Placing.{bases_length}
use Rattle.spec_loading.proofs.of_spec_safety.Lookups.{went_on, got}
use Rattle.spec_loading.proofs.of_spec_safety.Spaces.{function_has_type}
use Rattle.spec_loading.proofs.of_spec_validation.Parts.{parts_fit}
use Rattle.spec_loading.specs.Members.{opened_global}
use Rattle.merge_module.proofs.Known.{IsKnown}
use Rattle.merge_module.proofs.ImportedGlobals.{global_import, global_no_function}
use Rattle.merge_module.proofs.SetMembers.{is_sound}
use Rattle.merge_module.proofs.SpelledConstants.{FitsHere, Fit, each_fits}
use Rattle.merge_module.proofs.Slots.{base_word, table_base_word}

-- ---- types

-- a value of a type; a reference is to a function that some number of a member names
abbrev pub IsNamed : LinkedSet → Ref → Type 0
IsNamed L r = (m : ℕ) × (f : ℕ) × (function_ref L m f ≡ Some r)

abbrev pub IsValue : LinkedSet → ValType → Value → Type 0
IsValue L I32 (Num k) = k < 2 ^ 32
IsValue L I64 (Num k) = k < 2 ^ 64
IsValue L FuncRef (Func None) = Unit {0}
IsValue L FuncRef (Func (Some r)) = IsNamed L r
IsValue L _ _ = ⊥

-- of a number type they are numbers, and any number of the width is one
number_value : (L : LinkedSet) (t : ValType) (w : Width) → width_type w ≡ t → (v : Value) → IsValue L t v → (n : ℕ) × (v ≡ Num n)
number_value L t w e v is = go w v (subst (λ u. IsValue L u v) (sym e) is)
  where
    go : (w : Width) (v : Value) → IsValue L (width_type w) v → (n : ℕ) × (v ≡ Num n)
    go W32 (Num n) is = (n, refl)
    go W64 (Num n) is = (n, refl)
    go W32 (Func r) is = absurd is
    go W64 (Func r) is = absurd is

result_value : (L : LinkedSet) (t : ValType) (w : Width) → width_type w ≡ t → (n : ℕ) → n < 2 ^ bits w → IsValue L t (Num n)
result_value L t w e n lt = subst (λ u. IsValue L u (Num n)) e (go w lt)
  where
    go : (w : Width) → n < 2 ^ bits w → IsValue L (width_type w) (Num n)
    go W32 lt = lt
    go W64 lt = lt

-- an imported global that a constant expression may get is a base
pub flagged : (may : Bool) (ty : GlobalType) → is_i32_global may (imported.Global ty) ≡ true → (t : ValType) → immutable ty ≡ Some t → (t ≡ I32) × (may ≡ false)
flagged may ty e t h = go ty.mutable refl
  where
    unset : (b : Bool) → not b ≡ true → b ≡ false
    unset true q = absurd cc
    unset false q = refl

    go : (b : Bool) → ty.mutable ≡ b → (t ≡ I32) × (may ≡ false)
    go true q = absurd (let none : immutable ty ≡ None = rw q refl in cc)
    go false q =
        let value : immutable ty ≡ Some ty.value = rw q refl in
        let both = and_parts (same_type ty.value I32) _ e in
        let flag : not may ≡ true = rw q at both.1 in
        let is : ty.value ≡ I32 = one_type ty.value I32 both.0 in
        ((let q = sym value ∙ h in cc), unset may flag)

module _ (L : LinkedSet) (K : IsKnown L) (few : (linked_plan L).pages_max ≤ 16384) (m : ℕ) (member : Member) (at : slice_get L.set.members m ≡ Some member) where
  abbrev wasm : Module
  wasm = member.wasm

  here : wasm_of L m ≡ Some wasm
  here = ap (λ (o : Option Member). o >>= λ y. Some y.wasm) at

  abbrev Gives : Option Value → ValType → Type 0
  Gives o t = (v : Value) × (o ≡ Some v) × IsValue L t v

  -- ---- bases

  some_base : (o : Option ℕ) → o ≡ Some (unwrap_or o 0) → unwrap_or o 0 < 2 ^ 32 → (t : ValType) → t ≡ I32 → Gives (o >>= λ x. Some (Num x)) t
  some_base o e lt t is = (Num (unwrap_or o 0), ap (λ (p : Option ℕ). p >>= λ x. Some (Num x)) e, subst (λ u. IsValue L u (Num (unwrap_or o 0))) (sym is) lt)

  in_range : (xs : List ℕ) → length xs ≡ length L.set.members → slice_get xs m ≡ Some (unwrap_or (slice_get xs m) 0)
  in_range xs many =
      let lt = slice_get_within L.set.members m member at in
      let found = got xs m (omega arith) in
      found.1 ∙ ap Some (sym (ap (λ (o : Option ℕ). unwrap_or o 0) found.1))

  regions_many : length (regions_of L.set.members) ≡ length L.set.members
  regions_many = length-map L.set.members (λ (y : Member). region_of y.dylink)

  memory_base_there : memory_base L m ≡ Some (unwrap_or (memory_base L m) 0)
  memory_base_there = in_range (linked_plan L).bases (bases_length (λ r. r.mem_size) (λ r. r.mem_align) ((linked_plan L).stack_top + texts_size) (regions_of L.set.members) ∙ regions_many)

  table_base_there : table_base L m ≡ Some (unwrap_or (table_base L m) 0)
  table_base_there = in_range (linked_plan L).table_bases (bases_length (λ r. r.table_size) (λ r. r.table_align) 1 (regions_of L.set.members) ∙ regions_many)

  base_given : (i : Import) (ty : GlobalType) (t : ValType) → i.desc ≡ imported.Global ty → immutable ty ≡ Some t → (u : ImportUse) → use_of i ≡ u
      → fault_as L m wasm i u ≡ None → Gives (base_as L m i u) t
  base_given i ty t d h MemoryBase q none =
      let so = holds_so (is_i32_global false i.desc) (IllTyped m kind.Other i.field) none in
      some_base (memory_base L m) memory_base_there (base_word L K.links few m) t (flagged false ty (subst (λ k. is_i32_global false k ≡ true) d so) t h).0
  base_given i ty t d h TableBase q none =
      let so = holds_so (is_i32_global false i.desc) (IllTyped m kind.Other i.field) none in
      some_base (table_base L m) table_base_there (table_base_word L K.links m) t (flagged false ty (subst (λ k. is_i32_global false k ≡ true) d so) t h).0
  base_given i ty t d h StackPointer q none =
      let so = holds_so (is_i32_global true i.desc) (IllTyped m kind.Other i.field) none in
      absurd (let no = (flagged true ty (subst (λ k. is_i32_global true k ≡ true) d so) t h).1 in cc)
  base_given i ty t d h DataCell q none =
      let form = (or_none (unless (is_i32_global true i.desc) (IllTyped m kind.Mem i.field)) (data_cell_fault m i.field (definition L m kind.Mem i.field)) none).0 in
      let so = holds_so (is_i32_global true i.desc) (IllTyped m kind.Mem i.field) form in
      absurd (let no = (flagged true ty (subst (λ k. is_i32_global true k ≡ true) d so) t h).1 in cc)
  base_given i ty t d h SlotCell q none =
      let form = (or_none (unless (is_i32_global true i.desc) (IllTyped m kind.Func i.field)) (slot_cell_fault m i.field (definition L m kind.Func i.field)) none).0 in
      let so = holds_so (is_i32_global true i.desc) (IllTyped m kind.Func i.field) form in
      absurd (let no = (flagged true ty (subst (λ k. is_i32_global true k ≡ true) d so) t h).1 in cc)
  base_given i ty t d h SharedMemory q none =
      let so = holds_so (is_memory i.desc) (IllTyped m kind.Other i.field) none in
      absurd (let no : is_memory i.desc ≡ false = ap is_memory d in cc)
  base_given i ty t d h SharedTable q none =
      let so = holds_so (is_function_table i.desc) (IllTyped m kind.Other i.field) none in
      absurd (let no : is_function_table i.desc ≡ false = ap is_function_table d in cc)
  base_given i ty t d h (EnvFunction k) q none = absurd ((global_no_function i ty d k).0 q)
  base_given i ty t d h (ModuleFunction k) q none = absurd ((global_no_function i ty d k).1 q)
  base_given i ty t d h OtherUse q none = absurd cc

  -- ---- constant expressions

  function_given : (f : ℕ) (t : ValType) → constant_index wasm RefFunc f ≡ Some t → Gives (index_constant (function_ref L m) (imported_base L m) RefFunc f) t
  function_given f t e = go (is_function wasm f) refl e
    where
      go : (b : Bool) → is_function wasm f ≡ b → (if b then Some FuncRef else None) ≡ Some t → Gives (index_constant (function_ref L m) (imported_base L m) RefFunc f) t
      go true q h =
          let lt = ltb-true f (length (function_space wasm)) q in
          let ty = function_has_type wasm (parts_fit wasm (is_sound L m wasm K.set here).valid) f lt in
          let r = K.typed m f member ty.0 at ty.1 in
          let is : FuncRef ≡ t = cc in
          let found : function_ref L m f ≡ Some r.0 = r.1 in
          (Func (Some r.0), ap (λ (o : Option Ref). o >>= λ k. Some (Func (Some k))) found, subst (λ u. IsValue L u (Func (Some r.0))) is (m, f, found))
      go false q h = absurd cc

  global_given : (g : ℕ) (t : ValType) → constant_index wasm GlobalGet g ≡ Some t → Gives (index_constant (function_ref L m) (imported_base L m) GlobalGet g) t
  global_given g t e =
      let ty = went_on (slice_get (imports_of globals_in wasm.imports) g) immutable t e in
      let i = global_import wasm.imports g ty.0 ty.1 in
      let none = (linked_member L m member K.links at).imports i.place i.«import» i.at in
      let is : imported_base L m g ≡ base_value L m i.«import» =
      ap (λ (w : Option Module). w >>= λ y. slice_get (importing globals_in y.imports) g >>= base_value L m) here ∙ ap (λ (o : Option Import). o >>= base_value L m) i.numbered in
      let given = base_given i.«import» ty.0 t i.desc ty.2 (use_of i.«import») refl none in
      (given.0, is ∙ given.1, given.2)

  index_given : (form : IndexForm) (k : ℕ) (t : ValType) → constant_index wasm form k ≡ Some t → Gives (index_constant (function_ref L m) (imported_base L m) form k) t
  index_given RefFunc k t e = function_given k t e
  index_given GlobalGet k t e = global_given k t e
  index_given _ k t e = absurd cc

  step_given : (y : Open.Instr-F Instr Expr) (t : ValType) → FitsHere y → constant_step wasm y ≡ Some t → Gives (instruction_constant (function_ref L m) (imported_base L m) y) t
  step_given (Open.I32Const z) t fit e = (let is : I32 ≡ t = cc in (Num (cast_unsigned w32 z), refl, subst (λ u. IsValue L u (Num (cast_unsigned w32 z))) is fit))
  step_given (Open.I64Const z) t fit e = (let is : I64 ≡ t = cc in (Num (cast_unsigned w64 z), refl, subst (λ u. IsValue L u (Num (cast_unsigned w64 z))) is fit))
  step_given (Open.RefNull u) t fit e = go (same_type u FuncRef) e
    where
      go : (b : Bool) → (if b then Some FuncRef else None) ≡ Some t → Gives (Some (Func None)) t
      go true h = (let is : FuncRef ≡ t = cc in (Func None, refl, subst (λ u. IsValue L u (Func None)) is tt))
      go false h = absurd cc
  step_given (Open.Index op k) t fit e =
      let form = went_on (index_form op) (λ f. constant_index wasm f k) t e in
      let given = index_given form.0 k t form.2 in
      (given.0, ap (λ (o : Option IndexForm). o >>= λ f. index_constant (function_ref L m) (imported_base L m) f k) form.1 ∙ given.1, given.2)
  step_given _ t fit e = absurd cc

  put_held : (i : Instr) (t : ValType) → FitsHere (out-Instr i) → constant_step wasm (out-Instr i) ≡ Some t
      → Holds ⊥ (IsValue L t) (instruction_constant (function_ref L m) (imported_base L m) (out-Instr i))
  put_held i t fit e = (let given = step_given (out-Instr i) t fit e in subst (Holds ⊥ (IsValue L t)) (sym given.1) given.2)

  pub constant_given : (e : Expr) (t : ValType) → Fit e.list → is_constant wasm t e ≡ true → Gives (constant_of (function_ref L m) (imported_base L m) e) t
  constant_given e t fit typed =
      held (IsValue L t) (constant_of (function_ref L m) (imported_base L m) e)
      (typed_value wasm t (function_ref L m) (imported_base L m) ⊥ (IsValue L t) (λ i. FitsHere (out-Instr i)) (λ i. put_held i t) (number_value L t) (result_value L t) e
      (each_fits e.list fit) typed)

  -- each global of the member begins with a value of its type
  pub opened_is : (g : GlobalDef) → global_fits wasm g ≡ true → Fit g.init.list → IsValue L g.ty.value (opened_global L m g)
  opened_is g fits fit =
      let given = constant_given g.init g.ty.value fit fits in
      let is : opened_global L m g ≡ given.0 = ap (λ (o : Option Value). unwrap_or o (zero_of g.ty.value)) given.1 in
      subst (IsValue L g.ty.value) (sym is) given.2

  -- an imported global that a constant expression may get is an i32
  pub base_is_number : (g : ℕ) (ty : GlobalType) → slice_get (imports_of globals_in wasm.imports) g ≡ Some ty → (t : ValType) → immutable ty ≡ Some t → t ≡ I32
  base_is_number g ty there t h =
      let i = global_import wasm.imports g ty there in
      number_only i.«import» ty t i.desc h (use_of i.«import») refl ((linked_member L m member K.links at).imports i.place i.«import» i.at)
    where
      number_only : (i : Import) (ty : GlobalType) (t : ValType) → i.desc ≡ imported.Global ty → immutable ty ≡ Some t → (u : ImportUse) → use_of i ≡ u → fault_as L m wasm i u ≡ None → t ≡ I32
      number_only i ty t d h MemoryBase q none =
          let so = holds_so (is_i32_global false i.desc) (IllTyped m kind.Other i.field) none in
          (flagged false ty (subst (λ k. is_i32_global false k ≡ true) d so) t h).0
      number_only i ty t d h TableBase q none =
          let so = holds_so (is_i32_global false i.desc) (IllTyped m kind.Other i.field) none in
          (flagged false ty (subst (λ k. is_i32_global false k ≡ true) d so) t h).0
      number_only i ty t d h StackPointer q none =
          let so = holds_so (is_i32_global true i.desc) (IllTyped m kind.Other i.field) none in
          (flagged true ty (subst (λ k. is_i32_global true k ≡ true) d so) t h).0
      number_only i ty t d h DataCell q none =
          let form = (or_none (unless (is_i32_global true i.desc) (IllTyped m kind.Mem i.field)) (data_cell_fault m i.field (definition L m kind.Mem i.field)) none).0 in
          let so = holds_so (is_i32_global true i.desc) (IllTyped m kind.Mem i.field) form in
          (flagged true ty (subst (λ k. is_i32_global true k ≡ true) d so) t h).0
      number_only i ty t d h SlotCell q none =
          let form = (or_none (unless (is_i32_global true i.desc) (IllTyped m kind.Func i.field)) (slot_cell_fault m i.field (definition L m kind.Func i.field)) none).0 in
          let so = holds_so (is_i32_global true i.desc) (IllTyped m kind.Func i.field) form in
          (flagged true ty (subst (λ k. is_i32_global true k ≡ true) d so) t h).0
      number_only i ty t d h SharedMemory q none =
          let so = holds_so (is_memory i.desc) (IllTyped m kind.Other i.field) none in
          absurd (let no : is_memory i.desc ≡ false = ap is_memory d in cc)
      number_only i ty t d h SharedTable q none =
          let so = holds_so (is_function_table i.desc) (IllTyped m kind.Other i.field) none in
          absurd (let no : is_function_table i.desc ≡ false = ap is_function_table d in cc)
      number_only i ty t d h (EnvFunction k) q none = absurd ((global_no_function i ty d k).0 q)
      number_only i ty t d h (ModuleFunction k) q none = absurd ((global_no_function i ty d k).1 q)
      number_only i ty t d h OtherUse q none = absurd cc
