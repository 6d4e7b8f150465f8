-- The globals that members define begin with values that the constant instructions of their types have room for.
use Rattle.std.proofs.Common.{◌≡◌, ◌≢◌, ◌<◌, ◌≤◌, ◌^◌, ℕ, true, List, [], ◌∷◌, slice_get, get_or, length, Option, Some, refl, sym, subst}
use Rattle.std.specs.List.{All, list_all}
use Rattle.std.proofs.lemmas.Bool.{and_parts}
use Rattle.std.proofs.lemmas.List.Elements.{All-nil, All-cons, All-head, All-tail}
use Rattle.wasm_form.specs.declared.types.ValType.{ValType}
use Rattle.wasm_form.specs.declared.types.ValType.TheVariants.{I32, I64, F32, F64, FuncRef, ExternRef}
use Rattle.wasm_form.specs.declared.module.GlobalDef.{GlobalDef}
use Rattle.wasm_form.specs.declared.runtime.Value.{Value}
use Rattle.wasm_form.specs.declared.runtime.Value.TheVariants.{Num, Func}
use Rattle.spec_reading.proofs.of_spec_binary.Lists.{holds_at}
use Rattle.spec_loading.specs.spec_validation.Faults.{global_fits}
use Rattle.spec_loading.proofs.of_spec_validation.Parts.{parts_fit}
use Rattle.spec_loading.specs.spec_linking.Sets.{Member}
use Rattle.spec_loading.specs.spec_linking.Gathering.{IsMember, IsSet}
use Rattle.spec_loading.specs.spec_linking.LinkedSets.{LinkedSet}
use Rattle.spec_loading.specs.spec_linking.Slots.{linked_plan}
use Rattle.spec_loading.specs.spec_linking.Links.{Links}
use Rattle.dyl_addresses.specs.Bases.{AreBases}
use Rattle.dyl_addresses.proofs.Linked.{at_index}
use Rattle.merge_index.proofs.FewItems.{member_spelled}
use Rattle.merge_module.proofs.Known.{IsKnown, HasLaws, known}
use Rattle.merge_module.proofs.SpelledConstants.{Fit, constants_fit}
use Rattle.merge_module.proofs.GlobalValues.{IsValue, opened_is}
use Rattle.merge_whole.specs.GlobalDefs.{FitsIn, AreFit, bases_by, value_by}
use Rattle.merge_whole.proofs.GlobalLists.{value_is, bases_are}

-- a number of another type than i64 has 32 bits
pub short_fits : (ty : ValType) → ty ≢ I64 → (k : ℕ) → FitsIn ty (Num k) → k < 2 ^ 32
short_fits I32 other k fits = fits
short_fits I64 other k fits = absurd (other refl)
short_fits F32 other k fits = fits
short_fits F64 other k fits = fits
short_fits FuncRef other k fits = fits
short_fits ExternRef other k fits = fits

value_fits : (L : LinkedSet) (ty : ValType) (v : Value) → IsValue L ty v → FitsIn ty v
value_fits L I32 (Num k) is = is
value_fits L I64 (Num k) is = is
value_fits L F32 (Num k) is = absurd is
value_fits L F64 (Num k) is = absurd is
value_fits L FuncRef (Num k) is = absurd is
value_fits L ExternRef (Num k) is = absurd is
value_fits L I32 (Func r) is = tt
value_fits L I64 (Func r) is = tt
value_fits L F32 (Func r) is = tt
value_fits L F64 (Func r) is = tt
value_fits L FuncRef (Func r) is = tt
value_fits L ExternRef (Func r) is = tt

-- the globals of a list
pub global_at : (L : LinkedSet) (bases : List (Option ℕ)) (m : ℕ) (gs : List GlobalDef) → AreFit L bases m gs → (i : ℕ) (g : GlobalDef) → i < length gs
    → g ≡ get_or gs i g → FitsIn g.ty.value (value_by L bases m g)
global_at L bases m gs all i g lt is = holds_at (λ (x : GlobalDef). FitsIn x.ty.value (value_by L bases m x)) gs i g all (at_index gs i g lt is)

module _ (laws : HasLaws) (L : LinkedSet) (shape : IsSet L.set) (links : Links L) (pages : (linked_plan L).pages_max ≤ 16384) where
  abbrev K : IsKnown L
  K = known laws L shape links

  module _ (m : ℕ) (member : Member) (at : slice_get L.set.members m ≡ Some member) where
    each_fits : (bases : List (Option ℕ)) → AreBases L m bases → (gs : List GlobalDef) → list_all (global_fits member.wasm) gs ≡ true
        → All (λ (g : GlobalDef). Fit g.init.list) gs → AreFit L bases m gs
    each_fits bases are [] fits fit = All-nil (λ (g : GlobalDef). FitsIn g.ty.value (value_by L bases m g))
    each_fits bases are (g ∷ gs) fits fit =
        let both = and_parts (global_fits member.wasm g) (list_all (global_fits member.wasm) gs) fits in
        let is = opened_is L K pages m member at g both.0 (All-head (λ (y : GlobalDef). Fit y.init.list) g gs fit) in
        All-cons (λ (g : GlobalDef). FitsIn g.ty.value (value_by L bases m g)) g gs
        (value_fits L g.ty.value (value_by L bases m g) (subst (IsValue L g.ty.value) (sym (value_is L m member at bases are g)) is))
        (each_fits bases are gs both.1 (All-tail (λ (y : GlobalDef). Fit y.init.list) g gs fit))

    pub own_fit : AreFit L (bases_by L m member.wasm) m member.wasm.globals
    own_fit =
        let is = holds_at IsMember L.set.members m member shape.members at in
        each_fits (bases_by L m member.wasm) (bases_are L m member at) member.wasm.globals (parts_fit member.wasm is.read.valid).globals
        (constants_fit member.wasm member.size (member_spelled member is)).globals
