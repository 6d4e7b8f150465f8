use Rattle.run_loaded.specs.Courses.{course_of}
use Rattle.replay_check.proofs.OneTrace.{one_trace}
use Rattle.replay_check.proofs.check.runs_have_one_trace.Goals as goal

pub returns : goal.returns
returns c = λ o r t u is other. one_trace (course_of o) r t u is other
