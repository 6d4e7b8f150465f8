use Rattle.run_loaded.specs.Courses.{course_of}
use Rattle.replay_check.proofs.Agreeing.{traces_agreeing, one_agreeing}
use Rattle.replay_check.proofs.check.runs_agree_up_to_one_call.Goals as goal

pub returns-clause-one : goal.returns-clause-one
returns-clause-one c = λ o t k j. one_agreeing (course_of o) t k j

pub returns-clause-whole : goal.returns-clause-whole
returns-clause-whole c = λ o t. traces_agreeing (course_of o) t
