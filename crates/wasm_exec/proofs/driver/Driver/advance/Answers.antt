use Rattle.run_loaded.specs.Courses.{course_of}
use Rattle.run_loaded.specs.Programs.{recorded_of}
use Rattle.wasm_exec.specs.Driving.{progress_of}
use Rattle.wasm_exec.proofs.Advancing.{advanced}
use Rattle.wasm_exec.proofs.driver.Driver.advance.Goals as goal

pub returns-clause-along : goal.returns-clause-along
returns-clause-along c = λ o names runs.
    let of = c.advance.ensures.kept o runs.0 in
    let stood = c.steps.ensures.stands c.in_ok-advance.ensures.found o of in
    let on = advanced (course_of o) names (progress_of c.args.self.now) runs.1 c.args.most (recorded_of c.advance.new.self) c.advance.ensures.advances (c.advance.ensures.code o runs.0) c.in_ok-advance.ensures.found stood in
    ((of, on.0), on.1)
