use Rattle.std.proofs.Common.{◌≡◌, true, rules, sym, ◌∙◌}
use Rattle.spec_hosts.specs.spec_runtime.Recorded.{has_ended}
use Rattle.spec_hosts.specs.spec_runtime.Courses.{Course, status_at}
use Rattle.run_loaded.specs.Courses.{course_of}
use Rattle.run_loaded.specs.Programs.{recorded_of}
use Rattle.wasm_exec.specs.Driving.{progress_of}
use Rattle.run_loaded.proofs.Waiting.{not_waiting}
use Rattle.wasm_exec.proofs.Readiness.{ready_still, limited}
use Rattle.wasm_exec.proofs.Stepping.{ended_still, ended_again}
use Rattle.wasm_exec.proofs.driver.Driver.last.Goals as goal

pub returns-then-not-has_ended-clause-ended : goal.returns-then-not-has_ended-clause-ended
returns-then-not-has_ended-clause-ended c = λ o names runs.
    limited (course_of o) names (progress_of c.args.self.now) runs.1 (sym (c.has_ended.ensures runs.1.stands.found o runs.0) ∙ search rules)

pub run_step-requires-clause-answered : goal.run_step-requires-clause-answered
run_step-requires-clause-answered c =
    let runs = c.requires.running in
    let o = runs.1 in
    let x = recorded_of c.args.self.now.program in
    let ended : has_ended (status_at (course_of o) x) ≡ true = sym (c.has_ended.ensures runs.2.1.stands.found o runs.2.0) ∙ search rules in
    (o, runs.2.0, λ _. not_waiting x (status_at (course_of o) x) (ended_still (status_at (course_of o) x) ended))

pub returns-clause-ended : goal.returns-clause-ended
returns-clause-ended c = λ o names runs.
    let p = progress_of c.args.self.now in
    let C : Course = course_of o in
    let told = (c.in_ok-event.ensures.stepped o runs.0).1 in
    let ended : has_ended (status_at C p.run) ≡ true = sym (c.has_ended.ensures runs.1.stands.found o runs.0) ∙ search rules in
    (ended_again C names p (ready_still C names p runs.1 (ended_still (status_at C p.run) ended)) c.in_ok-event.event (recorded_of c.run_step.new.self) c.in-Some.end (sym c.end_by.ensures ∙ c.in-Some.is) ended told).0

pub returns-clause-same : goal.returns-clause-same
returns-clause-same c =
    let runs = c.requires.running in
    let o = runs.1 in
    let p = progress_of c.args.self.now in
    let C : Course = course_of o in
    let told = (c.in_ok-event.ensures.stepped o runs.2.0).1 in
    let ended : has_ended (status_at C p.run) ≡ true = sym (c.has_ended.ensures runs.2.1.stands.found o runs.2.0) ∙ search rules in
    (ended_again C runs.0 p (ready_still C runs.0 p runs.2.1 (ended_still (status_at C p.run) ended)) c.in_ok-event.event (recorded_of c.run_step.new.self) c.in-Some.end (sym c.end_by.ensures ∙ c.in-Some.is) ended told).1
