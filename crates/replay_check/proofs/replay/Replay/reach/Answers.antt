use Rattle.std.proofs.Common.{arith}
use Rattle.replay_check.proofs.replay.Replay.reach.Goals as goal

pub returns-then-not-branch-clause-along : goal.returns-then-not-branch-clause-along
returns-then-not-branch-clause-along c = λ o t k follows. c.in_ok-go_on.ensures.along o t k (c.loop-alloc.invariant.along o t k follows)

pub loop-alloc-preserved : goal.loop-alloc-preserved
loop-alloc-preserved c = record {
  more = omega (arith, c.loop-alloc.invariant.more, c.in_ok-go_on.ensures.more);
  few = c.in_ok-go_on.ensures.few;
  along = λ o t k follows. c.in_ok-go_on.ensures.along o t k (c.loop-alloc.invariant.along o t k follows);
}
