-- The calls before this one agree, and their answers were taken.
use Rattle.std.proofs.Common.{◌≤◌}
use Rattle.run_loaded.specs.Courses.{Origin}
use Rattle.replay_check.specs.Following.{run_of, Follows}
use Rattle.replay_check.proofs.replay.Replay.follow.Given as goal

abbrev pub invariant-loop-k : goal.invariant-loop-k
invariant-loop-k l = record {
  few : (run_of l.self).steps ≤ l.trace.steps;
  follows : (o : Origin) → Follows o l.trace 0 l.fn.self → Follows o l.trace l.k l.self;
}
