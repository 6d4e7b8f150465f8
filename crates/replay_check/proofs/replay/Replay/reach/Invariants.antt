-- As far as it has come.
use Rattle.std.proofs.Common.{◌≤◌, ◌-◌}
use Rattle.replay_check.specs.Following.{run_of, GoesAlong}
use Rattle.replay_check.proofs.replay.Replay.reach.Given as goal

abbrev pub invariant-loop-alloc : goal.invariant-loop-alloc
invariant-loop-alloc l = record {
  more : (run_of l.fn.self).steps ≤ (run_of l.self).steps;
  few : (run_of l.self).steps ≤ l.steps;
  along : GoesAlong l.fn.self l.self;
}

abbrev pub decreases-loop-alloc : goal.decreases-loop-alloc
decreases-loop-alloc l = l.steps - (run_of l.self).steps
