-- The first value of a global that a member of a linked set defines has its type: what a constant expression may get has the type it is given.
use Rattle.std.proofs.Common.{◌≡◌, ℕ, ◌^◌, ◌<◌, Bool, true, false, length, slice_get, Option, Some, None, refl, sym, ap, ◌∙◌, subst}
use Rattle.std.proofs.lemmas.Bool.{ltb-true}
use Rattle.spec_linking.specs.wasm_form.declared.types.ValType.{ValType}
use Rattle.spec_linking.specs.wasm_form.declared.types.ValType.TheVariants.{I32}
use Rattle.spec_linking.specs.wasm_form.declared.types.GlobalType.{GlobalType}
use Rattle.spec_linking.specs.wasm_form.declared.module.ImportDesc.TheVariants as imported
use Rattle.spec_linking.specs.wasm_form.declared.module.Import.{Import}
use Rattle.spec_linking.specs.wasm_form.declared.module.GlobalDef.{GlobalDef}
use Rattle.spec_linking.specs.wasm_form.declared.module.Module.{Module}
use Rattle.spec_linking.specs.wasm_form.declared.runtime.Ref.{Ref}
use Rattle.spec_linking.specs.wasm_form.declared.runtime.Value.{Value}
use Rattle.spec_linking.specs.wasm_form.declared.runtime.Value.TheVariants.{Num}
use Rattle.spec_linking.specs.spec_binary.Options.{◌>>=◌}
use Rattle.spec_linking.specs.spec_binary.IndexSpaces.{imports_of, globals_in, function_space}
use Rattle.spec_linking.specs.spec_validation.Faults.{is_function, immutable, global_fits}
use Rattle.spec_linking.proofs.of_spec_validation.Parts.{AreFit, parts_fit}
use Rattle.spec_linking.specs.spec_execution.Views.{View}
use Rattle.spec_linking.specs.spec_execution.Ranges.{Exists}
use Rattle.spec_linking.specs.Sets.{Member}
use Rattle.spec_linking.specs.Gathering.{IsMember, IsSet}
use Rattle.spec_linking.specs.Imports.{ImportUse, MemoryBase, TableBase, use_of, importing}
use Rattle.spec_linking.specs.LinkedSets.{LinkedSet, wasm_of, function_ref}
use Rattle.spec_linking.specs.Slots.{memory_base, table_base, as_number, base_as, base_value, imported_base, member_constant}
use Rattle.spec_linking.specs.Links.{fault_as, Links}
use Rattle.spec_linking.proofs.LinkedFacts.{linked_member}
use Rattle.spec_safety.specs.ValueTypes.{HasType, constants_fit}
use Rattle.spec_safety.proofs.Lookups.{holds_at, passes_at}
use Rattle.spec_safety.proofs.Spaces.{function_has_type}
use Rattle.spec_safety.proofs.ConstantTypes.{constant_typed}
use Rattle.spec_loading.specs.Members.{Store, set_view}
use Rattle.spec_loading.specs.RunItems.{MemberMemoryBase, MemberTableBase}
use Rattle.spec_loading.specs.SoundSets.{HasFewPages}
use Rattle.spec_loading.proofs.NumberedImports.{global_import}
use Rattle.spec_loading.proofs.LinkedMembers.{is_sound, member_numbers}
use Rattle.spec_loading.proofs.LinkedTypes.{function_exists}
use Rattle.spec_loading.proofs.ConstantValues.{global_given}
use Rattle.spec_loading.proofs.FirstNumbers.{memory_base_small, table_base_small}
use Rattle.spec_loading.proofs.MemberGlobals.{imported_type}

-- a number of 32 bits
pub number_typed : (L : LinkedSet) (o : Option ℕ) (v : Value) → ((n : ℕ) → o ≡ Some n → n < 2 ^ 32) → as_number o ≡ Some v
    → HasType (set_view L) I32 v
number_typed L None v small e = absurd cc
number_typed L (Some n) v small e = (let is : Num n ≡ v = cc in subst (HasType (set_view L) I32) is (refl, small n refl))

-- the type of a global that is never set
immutable_type : (ty : GlobalType) (t : ValType) → immutable ty ≡ Some t → ty.value ≡ t
immutable_type ty t h = go ty.mutable refl
  where
    go : (b : Bool) → ty.mutable ≡ b → ty.value ≡ t
    go true q = absurd (let none : immutable ty ≡ None = rw q refl in cc)
    go false q = (let some : immutable ty ≡ Some ty.value = rw q refl in cc)

module _ (L : LinkedSet) (set : IsSet L.set) (links : Links L) (few : HasFewPages L)
    (m : ℕ) (member : Member) (at : slice_get L.set.members m ≡ Some member) where
  abbrev V : View Store
  V = set_view L

  abbrev wasm : Module
  wasm = member.wasm

  here : wasm_of L m ≡ Some wasm
  here = ap (λ (o : Option Member). o >>= λ y. Some y.wasm) at

  fit : AreFit wasm
  fit = parts_fit wasm (is_sound L m wasm set here).valid

  function_there : (f : ℕ) → is_function wasm f ≡ true → (r : Ref) × (function_ref L m f ≡ Some r) × Exists V r
  function_there f e =
      let ty = function_has_type wasm fit f (ltb-true f (length (function_space wasm)) e) in
      function_exists L set links m f member at ty.0 ty.1

  -- an import that an expression may get is a base
  base_typed : (i : Import) (ty : GlobalType) (t : ValType) → i.desc ≡ imported.Global ty → ty.value ≡ t → (u : ImportUse) (v : Value)
      → base_as L m i u ≡ Some v
      → fault_as L m wasm i u ≡ None → HasType V t v
  base_typed i ty t d is MemoryBase v e none =
      subst (λ k. HasType V k v) (imported_type L m member at i ty d MemoryBase (MemberMemoryBase m) refl none ∙ is)
      (number_typed L (memory_base L m) v (memory_base_small L links few m) e)
  base_typed i ty t d is TableBase v e none =
      subst (λ k. HasType V k v) (imported_type L m member at i ty d TableBase (MemberTableBase m) refl none ∙ is)
      (number_typed L (table_base L m) v (table_base_small L links m) e)
  base_typed i ty t d is _ v e none = absurd cc

  import_typed : (g : ℕ) (ty : GlobalType) (t : ValType) → slice_get (imports_of globals_in wasm.imports) g ≡ Some ty → immutable ty ≡ Some t
      → (v : Value) × (imported_base L m g ≡ Some v) × HasType V t v
  import_typed g ty t e h =
      let given = global_given L m member at set links g t (ap (λ (o : Option GlobalType). o >>= immutable) e ∙ h) in
      let i = global_import wasm.imports g ty e in
      let none = (linked_member L m member links at).imports i.place i.«import» i.at in
      let is : imported_base L m g ≡ base_value L m i.«import» =
      ap (λ (w : Option Module). w >>= λ y. slice_get (importing globals_in y.imports) g >>= base_value L m) here
      ∙ ap (λ (o : Option Import). o >>= base_value L m) i.numbered in
      (given.0, given.1, base_typed i.«import» ty t i.desc (immutable_type ty t h) (use_of i.«import») given.0 (sym is ∙ given.1) none)

  -- the global that the member defines with this number
  pub own_typed : (k : ℕ) (g : GlobalDef) → slice_get wasm.globals k ≡ Some g
      → (v : Value) × (member_constant L m g.init ≡ Some v) × HasType V g.ty.value v
  own_typed k g e =
      let numbers = member_numbers member (holds_at IsMember L.set.members m member set.members at) in
      constant_typed V wasm (function_ref L m) (imported_base L m) function_there import_typed g.ty.value g.init
      (holds_at (λ (x : GlobalDef). constants_fit x.init.list ≡ true) wasm.globals k g numbers.globals e)
      (passes_at (global_fits wasm) wasm.globals k g fit.globals e)
