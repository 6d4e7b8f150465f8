-- The run as far as it has been made again.
use Rattle.std.proofs.Common.{◌-◌}
use Rattle.run_loaded.specs.Courses.{Origin}
use Rattle.run_loaded.specs.Programs.{recorded_of}
use Rattle.replay_check.specs.Recording.{Records}
use Rattle.replay_check.proofs.record.Recorder.make_steps.Given as goal

abbrev pub invariant-steps : goal.invariant-steps
invariant-steps l = (o : Origin) → Records o l.ran l.fn.self → Records o l.ran l.self

abbrev pub decreases-steps : goal.decreases-steps
decreases-steps l = l.ran.steps - (recorded_of l.self.loaded).steps
