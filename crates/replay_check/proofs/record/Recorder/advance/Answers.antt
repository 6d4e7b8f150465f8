use Rattle.std.proofs.Common.{◌≤◌, arith}
use Rattle.run_loaded.specs.Courses.{course_of}
use Rattle.run_loaded.specs.Programs.{recorded_of}
use Rattle.replay_check.proofs.Recording.{goes_along}
use Rattle.replay_check.proofs.record.Recorder.advance.Goals as goal

pub returns-clause-along : goal.returns-clause-along
returns-clause-along c = λ o begun.
    let x = recorded_of c.args.self.now.loaded in
    let y = recorded_of c.advance.new.self in
    let of = c.advance.ensures.kept o begun.0 in
    let found = c.in_ok-advance.ensures.found in
    let few : y.steps ≤ c.args.ran.now.steps = c.advance.ensures.few (omega arith) in (
      of,
      begun.1,
      goes_along (course_of o) c.args.ran.now c.args.self.now.calls.items c.args.ran.now.steps x y begun.2 c.advance.ensures.advances (c.advance.ensures.code o begun.0) found (c.steps-steps.ensures.stands found o of) c.requires few,
    )
