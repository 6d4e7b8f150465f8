use Rattle.std.proofs.Common.{◌<◌, ◌^◌, subst, arith}
use Rattle.wasm_form.specs.declared.types.ValType.TheVariants.{I32}
use Rattle.dyl_imports.specs.wasm_check.Constants.{IsOfType}
use Rattle.dyl_slots.proofs.placings.offset.Goals as goal

pub constant-requires-clause-typed : goal.constant-requires-clause-typed
constant-requires-clause-typed c = (I32, c.requires.number)

pub overflow_cast-result : goal.overflow_cast-result
overflow_cast-result c =
    let m = c.args.m.now in
    let small : c.in-Num.n < 2 ^ 32 = subst (IsOfType m I32) c.in-Num.is (c.in_ok-n.ensures.typed I32 c.requires.number c.requires.types) in
    omega (arith, small)

pub unreachable-requires : goal.unreachable-requires
unreachable-requires c =
    let m = c.args.m.now in
    subst (IsOfType m I32) c.in-Func.is (c.in_ok-n.ensures.typed I32 c.requires.number c.requires.types)
