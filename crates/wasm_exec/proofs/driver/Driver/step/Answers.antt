use Rattle.run_loaded.specs.Courses.{course_of}
use Rattle.run_loaded.specs.Programs.{recorded_of}
use Rattle.wasm_exec.specs.Driving.{progress_of}
use Rattle.wasm_exec.proofs.Stepping.{step_gives}
use Rattle.wasm_exec.proofs.driver.Driver.step.Goals as goal

pub run_step-requires-clause-answered : goal.run_step-requires-clause-answered
run_step-requires-clause-answered c =
    let ready = c.requires.ready in
    (ready.1, ready.2.0, λ _. ready.2.1.answered)

pub returns-clause-stepped : goal.returns-clause-stepped
returns-clause-stepped c = λ o names may.
    let told = c.in_ok-event.ensures in (
      c.run_step.ensures.kept o may.0,
      rw (c.end_by-end.ensures, c.asked_by.ensures) (step_gives (course_of o) names (progress_of c.args.self.now) may.1 c.in_ok-event.event (recorded_of c.run_step.new.self) (told.arguments o may.0) (told.stepped o may.0).1),
    )
