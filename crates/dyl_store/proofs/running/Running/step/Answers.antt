use Rattle.std.proofs.Common.{◌≡◌, ap, subst}
use Rattle.std.proofs.lemmas.Result.{IfOk-weaker}
use Rattle.std.specs.Borrow.{Bor}
use Rattle.spec_loading.specs.spec_linking.LinkedSets.{LinkedSet}
use Rattle.wasm_machine.specs.declared.event.Event.{Event}
use Rattle.dyl_store.specs.Runs.{StepsTo, WantsTo}
use Rattle.dyl_store.proofs.Calling.{answered_steps, call_waits}
use Rattle.dyl_store.proofs.Wanting.{told_wants, on_lost}
use Rattle.dyl_store.proofs.running.Running.step.Goals as goal
use Rattle.dyl_frames.specs.Cores.{loader_arguments}
use Rattle.dyl_store.specs.Calls.{Answers}

pub answer-requires-clause-loading : goal.answer-requires-clause-loading
answer-requires-clause-loading c =
    call_waits c.in-Loader.call c.in-Loader.first c.in-Loader.second c.args.self.now c.next.new.self c.requires.stands
    (subst (λ (e : Event). StepsTo c.args.self.now.linked.now e c.args.self.now c.next.new.self) c.in-Loader.is c.in_ok-event.ensures.stepped)

pub returns-in-Loader-clause-stepped : goal.returns-in-Loader-clause-stepped
returns-in-Loader-clause-stepped c =
    let L = c.args.self.now.linked.now in
    let told = subst (λ (e : Event). StepsTo L e c.args.self.now c.next.new.self) c.in-Loader.is c.in_ok-event.ensures.stepped in
    let kept : c.next.new.self.linked.now ≡ L = ap (λ (b : Bor LinkedSet). b.now) c.next.ensures.linked in
    IfOk-weaker c.answer.result _ _
    (λ e answers. answered_steps L c.in-Loader.call c.in-Loader.first c.in-Loader.second e c.args.self.now c.next.new.self c.answer.new.self told
    (subst (λ (M : LinkedSet). Answers M c.in-Loader.call (loader_arguments c.in-Loader.call c.in-Loader.first c.in-Loader.second) e c.next.new.self c.answer.new.self) kept answers)) c.answer.ensures.answers

pub returns-in-Loader-clause-wanting : goal.returns-in-Loader-clause-wanting
returns-in-Loader-clause-wanting c =
    let told = subst (λ (e : Event). StepsTo c.args.self.now.linked.now e c.args.self.now c.next.new.self) c.in-Loader.is c.in_ok-event.ensures.stepped in
    on_lost c.answer.result (WantsTo c.args.self.now) (told_wants c.in-Loader.call c.in-Loader.first c.in-Loader.second c.args.self.now c.next.new.self told)
