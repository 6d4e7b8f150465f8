use Rattle.std.proofs.Common.{arith}
use Rattle.replay_check.proofs.record.Recorder.make_steps.Goals as goal

pub proceed-requires-clause-along : goal.proceed-requires-clause-along
proceed-requires-clause-along c = let begun = c.requires in (begun.0, c.steps.invariant begun.0 begun.1)

pub steps-preserved : goal.steps-preserved
steps-preserved c = λ o begun. c.in_ok-proceed.ensures.along o (c.steps.invariant o begun)

pub returns-clause-all : goal.returns-clause-all
returns-clause-all c =
    let begun = c.requires in
    let few = (c.steps.invariant begun.0 begun.1).2.0.few in
    omega arith
