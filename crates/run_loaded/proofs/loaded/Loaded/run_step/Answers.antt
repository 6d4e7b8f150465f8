use Rattle.std.proofs.Common.{◌≡◌, false}
use Rattle.std.proofs.lemmas.Result.{IfOk-weaker}
use Rattle.wasm_machine.specs.declared.event.Event.{Event}
use Rattle.spec_hosts.specs.spec_runtime.Courses.{IsAt, is_waiting}
use Rattle.wasm_machine.specs.Steps.{RunStepped, ArgumentsFit}
use Rattle.run_loaded.specs.Courses.{Origin, course_of}
use Rattle.run_loaded.proofs.Singles.{by_module, from_opening, at_opening, module_kept}
use Rattle.run_loaded.proofs.Sets.{set_at, at_ok, set_kept}
use Rattle.run_loaded.proofs.loaded.Loaded.run_step.Goals as goal

pub run_step-requires-clause-answered : goal.run_step-requires-clause-answered
run_step-requires-clause-answered c =
    let r = rw c.in-Module.is at c.requires.answered in
    let s = c.in-Module.single in
    let P : Origin → Type 0 = λ o. s.run.lost ≡ false → is_waiting (course_of o) s.run ≡ false in
    from_opening s P (at_opening s P r.0 r.1 r.2)

pub run_step-requires-in-Set-clause-answered : goal.run_step-requires-in-Set-clause-answered
run_step-requires-in-Set-clause-answered c =
    let r = rw c.in-Set.is at c.requires.answered in
    let s = c.in-Set.store in
    set_at s (λ o. s.run.lost ≡ false → is_waiting (course_of o) s.run ≡ false) r.0 r.1 r.2

pub returns-in-Module-clause-stepped : goal.returns-in-Module-clause-stepped
returns-in-Module-clause-stepped c =
    let s = c.in-Module.single in
    let P : Event → Origin → Type 0 = λ e o. IsAt (course_of o) s.run × RunStepped (course_of o) e s.run c.run_step.new.self.run in
    rw c.in-Module.is (IfOk-weaker c.run_step.result _ _ (λ e told. by_module s (P e) (from_opening s (P e) (told.0, told.1, (told.2, told.3)))) c.run_step.ensures.stepped)

pub returns-in-Module-clause-arguments : goal.returns-in-Module-clause-arguments
returns-in-Module-clause-arguments c =
    let s = c.in-Module.single in
    rw c.in-Module.is (IfOk-weaker c.run_step.result _ _ (λ e fit. by_module s (λ o. ArgumentsFit (course_of o).host e) (λ opening opens. fit)) c.run_step.ensures.arguments)

pub returns-in-Module-clause-lost : goal.returns-in-Module-clause-lost
returns-in-Module-clause-lost c = rw c.in-Module.is c.run_step.ensures.lost

pub returns-in-Module-clause-kept : goal.returns-in-Module-clause-kept
returns-in-Module-clause-kept c = rw c.in-Module.is (module_kept c.in-Module.single c.run_step.new.self c.run_step.ensures.same)

pub returns-in-Set-clause-stepped : goal.returns-in-Set-clause-stepped
returns-in-Set-clause-stepped c =
    let s = c.in-Set.store in
    rw c.in-Set.is
    (at_ok s c.run_step-in-Set.result (λ e o. IsAt (course_of o) s.run × RunStepped (course_of o) e s.run c.run_step-in-Set.new.self.run) c.run_step-in-Set.ensures.stepped)

pub returns-in-Set-clause-arguments : goal.returns-in-Set-clause-arguments
returns-in-Set-clause-arguments c =
    rw c.in-Set.is (at_ok c.in-Set.store c.run_step-in-Set.result (λ e o. ArgumentsFit (course_of o).host e) c.run_step-in-Set.ensures.arguments)

pub returns-in-Set-clause-lost : goal.returns-in-Set-clause-lost
returns-in-Set-clause-lost c = rw c.in-Set.is c.run_step-in-Set.ensures.lost

pub returns-in-Set-clause-kept : goal.returns-in-Set-clause-kept
returns-in-Set-clause-kept c = rw c.in-Set.is (set_kept c.in-Set.store c.run_step-in-Set.new.self c.run_step-in-Set.ensures.same)

pub run_step-requires-clause-few : goal.run_step-requires-clause-few
run_step-requires-clause-few c = rw c.in-Module.is at c.requires.few

pub run_step-requires-in-Set-clause-few : goal.run_step-requires-in-Set-clause-few
run_step-requires-in-Set-clause-few c = rw c.in-Set.is at c.requires.few
