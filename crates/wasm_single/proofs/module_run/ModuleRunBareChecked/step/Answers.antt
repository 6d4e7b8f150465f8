use Rattle.std.proofs.Common.{ap, subst}
use Rattle.std.specs.Borrow.{Bor}
use Rattle.wasm_form.specs.declared.module.Module.{Module}
use Rattle.spec_safety.specs.spec_execution.Instances.{module_hosts}
use Rattle.spec_safety.specs.spec_runtime.Courses.{state_at}
use Rattle.wasm_machine.specs.Steps.{ArgumentsFit}
use Rattle.wasm_single.specs.Singles.{module_course}
use Rattle.wasm_single.proofs.Arguments.{arguments_told}
use Rattle.wasm_single.proofs.ModuleRuns.{steps_so, on_err}
use Rattle.wasm_single.proofs.module_run.ModuleRunBareChecked.step.Goals as goal

pub returns-in_err-event-clause-wanting : goal.returns-in_err-event-clause-wanting
returns-in_err-event-clause-wanting c = on_err c.from_residual.result _ (λ o of s is. c.in_err-event.ensures.wanting s is)

pub returns-clause-stepped : goal.returns-clause-stepped
returns-clause-stepped c = λ o of s is.
    steps_so c.args.self.now.core.checked.now (record c.args.self.now { core = c.step.new.self }) (ap (λ (b : Bor Module). b.now) c.step.ensures.wasm) o s c.in_ok-event.event (c.in_ok-event.ensures.stepped s is)

pub returns-clause-arguments : goal.returns-clause-arguments
returns-clause-arguments c = λ o of.
    let q = c.requires.stands in
    let s = state_at (module_course c.args.self.now.core.checked.now q.0) q.2.0 in
    subst (λ m. ArgumentsFit (module_hosts m) c.in_ok-event.event) (ap (λ (b : Bor Module). b.now) c.step.ensures.wasm)
    (arguments_told c.in_ok-event.event s c.step.new.self (c.in_ok-event.ensures.stepped s q.2.2) c.are_numbers.ensures)
