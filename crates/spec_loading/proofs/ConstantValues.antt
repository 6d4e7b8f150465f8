-- Each global that a member of a linked set defines has a first value: its constant expression gets only what there is.
use Rattle.std.proofs.Common.{◌≡◌, ℕ, Bool, true, false, length, slice_get, is_some, Option, Some, None, refl, ap, ◌∙◌, subst, if◌then◌else◌}
use Rattle.std.proofs.lemmas.Bool.{ltb-true, and_parts}
use Rattle.std.proofs.lemmas.Option.{slice_get_within}
use Rattle.spec_linking.specs.wasm_form.declared.types.ValType.{ValType}
use Rattle.spec_linking.specs.wasm_form.declared.types.ValType.TheVariants.{I32, FuncRef}
use Rattle.spec_linking.specs.wasm_form.declared.types.GlobalType.{GlobalType}
use Rattle.spec_linking.specs.wasm_form.declared.instr.Instr.{Instr, out-Instr}
use Rattle.spec_linking.specs.wasm_form.declared.instr.Instr.TheOpen as Open
use Rattle.spec_linking.specs.wasm_form.declared.instr.Expr.{Expr}
use Rattle.spec_linking.specs.wasm_form.declared.module.ImportDesc.TheVariants as imported
use Rattle.spec_linking.specs.wasm_form.declared.module.Import.{Import}
use Rattle.spec_linking.specs.wasm_form.declared.module.GlobalDef.{GlobalDef}
use Rattle.spec_linking.specs.wasm_form.declared.module.Module.{Module}
use Rattle.spec_linking.specs.wasm_form.declared.runtime.Ref.{Ref}
use Rattle.spec_linking.specs.wasm_form.declared.index.IndexForm.{IndexForm}
use Rattle.spec_linking.specs.wasm_form.declared.index.IndexForm.TheVariants.{RefFunc, GlobalGet}
use Rattle.spec_linking.specs.wasm_form.Index.{index_form}
use Rattle.spec_linking.specs.wasm_form.declared.runtime.Value.{Value}
use Rattle.spec_linking.specs.wasm_form.declared.runtime.Value.TheVariants.{Num, Func}
use Rattle.spec_linking.specs.spec_binary.Options.{◌>>=◌}
use Rattle.spec_linking.specs.spec_binary.SameTypes.{same_type}
use Rattle.spec_linking.specs.spec_binary.IndexSpaces.{imports_of, globals_in, function_space}
use Rattle.spec_linking.specs.spec_validation.Faults.{is_function, immutable, constant_index, constant_step, global_fits}
use Rattle.spec_linking.proofs.of_spec_validation.Parts.{parts_fit}
use Rattle.spec_linking.specs.spec_runtime.Constants.{index_constant, instruction_constant}
use Rattle.spec_linking.proofs.of_spec_execution.Constants.{has_value}
use Rattle.spec_linking.specs.Sets.{Member}
use Rattle.spec_linking.specs.Gathering.{IsSet}
use Rattle.spec_linking.specs.Imports.{ImportUse, SharedMemory, SharedTable, StackPointer, MemoryBase, TableBase, DataCell, SlotCell, EnvFunction, ModuleFunction, OtherUse, use_of, importing, is_memory, is_function_table, is_i32_global}
use Rattle.spec_linking.specs.LinkedSets.{LinkedSet, wasm_of, definition, function_ref}
use Rattle.spec_linking.specs.Slots.{memory_base, table_base, as_number, base_as, base_value, imported_base, member_constant}
use Rattle.spec_linking.specs.declared.fault.Kind.TheVariants as kind
use Rattle.spec_linking.specs.Links.{unless, data_cell_fault, slot_cell_fault, fault_as, Links}
use Rattle.spec_linking.proofs.LinkedFacts.{holds_so, or_none, linked_member}
use Rattle.spec_linking.proofs.DefinedSlots.{memory_base_there, table_base_there}
use Rattle.spec_safety.proofs.Lookups.{went_on, passes_at}
use Rattle.spec_safety.proofs.Spaces.{function_has_type}
use Rattle.spec_loading.proofs.NumberedImports.{global_import}
use Rattle.spec_loading.proofs.LinkedCells.{IsFitting, use_fits}
use Rattle.spec_loading.proofs.LinkedMembers.{is_sound}
use Rattle.spec_loading.proofs.LinkedTypes.{function_exists}
use Rattle.spec_loading.proofs.LinkedStore.{no_function}

abbrev pub Given : Option Value → Type 0
Given o = (v : Value) × (o ≡ Some v)

-- ---- what a constant expression may get

-- a global that may be set is none that it may get
never_set : (ty : GlobalType) (t : ValType) → is_i32_global true (imported.Global ty) ≡ true → immutable ty ≡ Some t → ⊥
never_set ty t e h = go ty.mutable refl
  where
    go : (b : Bool) → ty.mutable ≡ b → ⊥
    go true q = (let none : immutable ty ≡ None = rw q refl in cc)
    go false q = (let both = and_parts (same_type ty.value I32) _ e in let no : false ≡ true = rw q at both.1 in cc)

-- a base is a number
base_number : (L : LinkedSet) (m g : ℕ) (v : Value) → imported_base L m g ≡ Some v → (n : ℕ) × (v ≡ Num n)
base_number L m g v e =
    let w = went_on (wasm_of L m) (λ y. slice_get (importing globals_in y.imports) g >>= base_value L m) v e in
    let i = went_on (slice_get (importing globals_in w.0.imports) g) (base_value L m) v w.2 in
    as_use i.0 (use_of i.0) i.2
  where
    as_base : (o : Option ℕ) → as_number o ≡ Some v → (n : ℕ) × (v ≡ Num n)
    as_base None h = absurd cc
    as_base (Some n) h = (n, cc)

    as_use : (i : Import) (u : ImportUse) → base_as L m i u ≡ Some v → (n : ℕ) × (v ≡ Num n)
    as_use i MemoryBase h = as_base (memory_base L m) h
    as_use i TableBase h = as_base (table_base L m) h
    as_use i _ h = absurd cc

module _ (L : LinkedSet) (m : ℕ) (member : Member) (at : slice_get L.set.members m ≡ Some member) where
  abbrev wasm : Module
  wasm = member.wasm

  here : wasm_of L m ≡ Some wasm
  here = ap (λ (o : Option Member). o >>= λ y. Some y.wasm) at

  some_base : (o : Option ℕ) → (n : ℕ) × (o ≡ Some n) → Given (as_number o)
  some_base o found = (Num found.0, ap as_number found.1)

  base_given : (i : Import) (ty : GlobalType) (t : ValType) → i.desc ≡ imported.Global ty → immutable ty ≡ Some t → (u : ImportUse) → IsFitting i u
      → fault_as L m wasm i u ≡ None → Given (base_as L m i u)
  base_given i ty t d h MemoryBase fits none = some_base (memory_base L m) (memory_base_there L m (slice_get_within L.set.members m member at))
  base_given i ty t d h TableBase fits none = some_base (table_base L m) (table_base_there L m (slice_get_within L.set.members m member at))
  base_given i ty t d h StackPointer fits none =
      let so = holds_so (is_i32_global true i.desc) _ none in
      absurd (never_set ty t (subst (λ k. is_i32_global true k ≡ true) d so) h)
  base_given i ty t d h DataCell fits none =
      let form = (or_none (unless (is_i32_global true i.desc) _) (data_cell_fault m i.field (definition L m kind.Mem i.field)) none).0 in
      let so = holds_so (is_i32_global true i.desc) _ form in
      absurd (never_set ty t (subst (λ k. is_i32_global true k ≡ true) d so) h)
  base_given i ty t d h SlotCell fits none =
      let form = (or_none (unless (is_i32_global true i.desc) _) (slot_cell_fault m i.field (definition L m kind.Func i.field)) none).0 in
      let so = holds_so (is_i32_global true i.desc) _ form in
      absurd (never_set ty t (subst (λ k. is_i32_global true k ≡ true) d so) h)
  base_given i ty t d h SharedMemory fits none =
      let so = holds_so (is_memory i.desc) _ none in
      absurd (let no : is_memory i.desc ≡ false = ap is_memory d in cc)
  base_given i ty t d h SharedTable fits none =
      let so = holds_so (is_function_table i.desc) _ none in
      absurd (let no : is_function_table i.desc ≡ false = ap is_function_table d in cc)
  base_given i ty t d h (EnvFunction k) fits none = absurd (no_function i.desc ty k d fits)
  base_given i ty t d h (ModuleFunction k) fits none = absurd (no_function i.desc ty k d fits)
  base_given i ty t d h OtherUse fits none = absurd cc

  module _ (set : IsSet L.set) (links : Links L) where
    -- ---- constant expressions

    function_given : (f : ℕ) (t : ValType) → constant_index wasm RefFunc f ≡ Some t → Given (index_constant (function_ref L m) (imported_base L m) RefFunc f)
    function_given f t e = go (is_function wasm f) refl e
      where
        go : (b : Bool) → is_function wasm f ≡ b → (if b then Some FuncRef else None) ≡ Some t → Given (index_constant (function_ref L m) (imported_base L m) RefFunc f)
        go true q h =
            let lt = ltb-true f (length (function_space wasm)) q in
            let ty = function_has_type wasm (parts_fit wasm (is_sound L m wasm set here).valid) f lt in
            let r = function_exists L set links m f member at ty.0 ty.1 in
            (Func (Some r.0), ap (λ (o : Option Ref). o >>= λ k. Some (Func (Some k))) r.1)
        go false q h = absurd cc

    pub global_given : (g : ℕ) (t : ValType) → constant_index wasm GlobalGet g ≡ Some t → Given (index_constant (function_ref L m) (imported_base L m) GlobalGet g)
    global_given g t e =
        let ty = went_on (slice_get (imports_of globals_in wasm.imports) g) immutable t e in
        let i = global_import wasm.imports g ty.0 ty.1 in
        let none = (linked_member L m member links at).imports i.place i.«import» i.at in
        let is : imported_base L m g ≡ base_value L m i.«import» =
        ap (λ (w : Option Module). w >>= λ y. slice_get (importing globals_in y.imports) g >>= base_value L m) here ∙ ap (λ (o : Option Import). o >>= base_value L m) i.numbered in
        let given = base_given i.«import» ty.0 t i.desc ty.2 (use_of i.«import») (use_fits i.«import») none in
        (given.0, is ∙ given.1)

    index_given : (form : IndexForm) (k : ℕ) (t : ValType) → constant_index wasm form k ≡ Some t → Given (index_constant (function_ref L m) (imported_base L m) form k)
    index_given RefFunc k t e = function_given k t e
    index_given GlobalGet k t e = global_given k t e
    index_given _ k t e = absurd cc

    step_given : (y : Open.Instr-F Instr Expr) (t : ValType) → constant_step wasm y ≡ Some t → Given (instruction_constant (function_ref L m) (imported_base L m) y)
    step_given (Open.I32Const z) t e = (_, refl)
    step_given (Open.I64Const z) t e = (_, refl)
    step_given (Open.RefNull u) t e = (_, refl)
    step_given (Open.Index op k) t e =
        let form = went_on (index_form op) (λ f. constant_index wasm f k) t e in
        let given = index_given form.0 k t form.2 in
        (given.0, ap (λ (o : Option IndexForm). o >>= λ f. index_constant (function_ref L m) (imported_base L m) f k) form.1 ∙ given.1)
    step_given _ t e = absurd cc

    step_there : (i : Instr) (t : ValType) → constant_step wasm (out-Instr i) ≡ Some t → is_some (instruction_constant (function_ref L m) (imported_base L m) (out-Instr i)) ≡ true
    step_there i t e = (let given = step_given (out-Instr i) t e in ap is_some given.1)

    -- the global that the member defines with this number
    pub own_given : (k : ℕ) (g : GlobalDef) → slice_get wasm.globals k ≡ Some g → Given (member_constant L m g.init)
    own_given k g e =
        let fits = (parts_fit wasm (is_sound L m wasm set here).valid).globals in
        has_value wasm (function_ref L m) (imported_base L m) (base_number L m) g.ty.value (λ i. step_there i g.ty.value) g.init
        (passes_at (global_fits wasm) wasm.globals k g fits e)
