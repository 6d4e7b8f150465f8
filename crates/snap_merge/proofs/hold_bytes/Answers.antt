use Rattle.std.proofs.Common.{subst, arith}
use Rattle.spec_loading.specs.spec_safety.SoundModules.{HoldsBytes}
use Rattle.dyl_store.proofs.Runnable.{next_bytes, all_bytes}
use Rattle.snap_merge.proofs.hold_bytes.Goals as goal

pub loop-member-preserved : goal.loop-member-preserved
loop-member-preserved c =
    next_bytes _ c.loop-member.member-index c.member-item.result c.loop-member-test.true c.member-item.is (subst HoldsBytes c.module.ensures.same c.holds_bytes.ensures) c.loop-member.invariant

pub returns : goal.returns
returns c =
    all_bytes c.args.linked.now _ c.loop-member.member-index c.members-member-items.ensures (omega arith) c.loop-member.invariant
