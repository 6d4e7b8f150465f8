use Rattle.std.proofs.Common.{◌+◌, refl, arith}
use Rattle.merge_whole.proofs.BuiltBodies.{trap_next}
use Rattle.merge_whole.proofs.built.stubs.put_traps.Goals as goal

pub loop-type-preserved : goal.loop-type-preserved
loop-type-preserved c = record {
  put = trap_next c.args.linked.now c.args.m c.loop-type.f (c.loop-type.f + 1) c.loop-type._type-index c.args.types.now c.loop-type-test.true refl
      _ _ _ c.loop-type.invariant.put c.in_ok-put_trap.ensures;
  at = (let before = c.loop-type.invariant.at in omega arith);
}
