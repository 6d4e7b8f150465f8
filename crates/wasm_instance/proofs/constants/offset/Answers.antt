use Rattle.std.proofs.Common.{ℕ, ◌<◌, ◌^◌, Option, Some, [], subst, arith}
use Rattle.wasm_form.specs.declared.types.ValType.TheVariants.{I32}
use Rattle.wasm_form.specs.declared.runtime.Ref.{Ref}
use Rattle.spec_safety.specs.spec_runtime.Constants.{constant_of, numbered_globals}
use Rattle.wasm_check.specs.declared.value.Constant.{Constant}
use Rattle.wasm_check.specs.Constants.{StandsFor, IsOfType}
use Rattle.wasm_instance.proofs.Alone.{number_of_globals}
use Rattle.wasm_instance.proofs.ConstantValues.{none_of_types, offset_is}
use Rattle.wasm_instance.proofs.constants.offset.Goals as goal

pub constant-requires-clause-typed : goal.constant-requires-clause-typed
constant-requires-clause-typed c = (I32, c.requires.number)

pub constant-requires-clause-numbers : goal.constant-requires-clause-numbers
constant-requires-clause-numbers c = number_of_globals c.args.m.now c.requires.alone.imports

pub overflow_cast-result : goal.overflow_cast-result
overflow_cast-result c =
    let m = c.args.m.now in
    let small : c.in-Num.n < 2 ^ 32 = subst (IsOfType m I32) c.in-Num.is (c.in_ok-n.ensures.typed I32 c.requires.number (none_of_types m)) in
    omega (arith, small)

pub unreachable-requires : goal.unreachable-requires
unreachable-requires c =
    let m = c.args.m.now in
    subst (IsOfType m I32) c.in-Func.is (c.in_ok-n.ensures.typed I32 c.requires.number (none_of_types m))

pub returns : goal.returns
returns c =
    let P : Constant → Type 0 = λ k. StandsFor (Some k) (λ (functions : ℕ → Option Ref). constant_of functions (numbered_globals []) c.args.e.now) in
    offset_is c.args.m.now c.in-Num.n c.args.e.now (subst P c.in-Num.is c.in_ok-n.ensures.value)
