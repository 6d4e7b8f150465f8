use Rattle.run_loaded.specs.Courses.{course_of}
use Rattle.run_loaded.specs.Programs.{recorded_of}
use Rattle.run_loaded.proofs.Openings.{opening_moves}
use Rattle.replay_check.proofs.Beginning.{has_begun}
use Rattle.replay_check.proofs.replay.Replay.new.Goals as goal

pub returns-clause-follows : goal.returns-clause-follows
returns-clause-follows c = λ o t of.
    let begun = has_begun (course_of o) t (recorded_of c.args.program) c.requires (opening_moves c.args.program o of) in
    record { of = of; followed = begun.0; asks = begun.1; written = begun.2 }
