-- The host functions of a set that links have integers alone, and types that modules may use.
use Rattle.std.proofs.Common.{◌≡◌, true, List, [], ◌∷◌, refl, sym}
use Rattle.std.specs.List.{All, list_all}
use Rattle.std.proofs.lemmas.Bool.{true≢false, and_from, and_parts}
use Rattle.std.proofs.lemmas.List.Elements.{All-weaker}
use Rattle.wasm_form.specs.declared.types.ValType.{ValType}
use Rattle.wasm_form.specs.declared.types.ValType.TheVariants.{I32, I64, F32, F64, FuncRef, ExternRef}
use Rattle.wasm_form.specs.declared.types.FuncType.{FuncType}
use Rattle.spec_loading.specs.spec_validation.Faults.{is_supported, is_function_supported}
use Rattle.spec_loading.specs.spec_runtime.Names.{is_integer, has_integers}
use Rattle.spec_loading.specs.spec_linking.LinkedSets.{LinkedSet, hosts_of}
use Rattle.spec_loading.specs.spec_linking.Links.{Links}
use Rattle.dyl_slots.specs.host_table.Names.{HaveIntegers}
use Rattle.dyl_link.specs.Sets.{IsSupported}
use Rattle.dyl_link.proofs.SetHosts.{IsDeclared, set_declared}

integer_supported : (t : ValType) → is_integer t ≡ true → is_supported t ≡ true
integer_supported I32 h = refl
integer_supported I64 h = refl
integer_supported F32 h = absurd (true≢false (sym h))
integer_supported F64 h = absurd (true≢false (sym h))
integer_supported FuncRef h = refl
integer_supported ExternRef h = absurd (true≢false (sym h))

integers_supported : (ts : List ValType) → list_all is_integer ts ≡ true → list_all is_supported ts ≡ true
integers_supported [] h = refl
integers_supported (t ∷ ts) h =
    let both = and_parts (is_integer t) (list_all is_integer ts) h in
    and_from (is_supported t) (list_all is_supported ts) (integer_supported t both.0) (integers_supported ts both.1)

function_supported : (ty : FuncType) → has_integers ty ≡ true → is_function_supported ty ≡ true
function_supported ty h =
    let both = and_parts (list_all is_integer ty.params) (list_all is_integer ty.results) h in
    and_from (list_all is_supported ty.params) (list_all is_supported ty.results) (integers_supported ty.params both.0) (integers_supported ty.results both.1)

pub hosts_supported : (L : LinkedSet) → Links L → HaveIntegers L.names → All IsSupported (hosts_of L)
hosts_supported L links integers =
    All-weaker (IsDeclared L) IsSupported (λ host declared. function_supported host.ty (integers host.module_name host.name host.ty declared)) (hosts_of L) (set_declared L links)
