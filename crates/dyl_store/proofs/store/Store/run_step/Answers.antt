use Rattle.std.proofs.Common.{◌≡◌, ◌⊎◌, true, false, sym, subst}
use Rattle.std.specs.Prelude.{IfOk, OnErr}
use Rattle.spec_loading.specs.spec_runtime.Courses.{IsAt, is_waiting}
use Rattle.spec_loading.specs.spec_linking.LinkedSets.{set_hosts}
use Rattle.wasm_machine.specs.Steps.{RunStepped, ArgumentsFit}
use Rattle.dyl_store.specs.Stores.{StoreRun, set_course, MayWantAt}
use Rattle.dyl_store.proofs.store.Store.run_step.Goals as goal

pub run_step-requires-clause-answered : goal.run_step-requires-clause-answered
run_step-requires-clause-answered c =
    (tt, tt, subst (λ (v : StoreRun). v.run.lost ≡ false → is_waiting (set_course v.linked) v.run ≡ false) (sym c.self.view_is) c.requires.answered)

pub returns-clause-stepped : goal.returns-clause-stepped
returns-clause-stepped c =
    let y = c.run_step.new.self.run in
    subst (λ (v : StoreRun). IfOk c.run_step.result (λ e. IsAt (set_course v.linked) v.run × RunStepped (set_course v.linked) e v.run y)) c.self.view_is (c.run_step.ensures.stepped tt tt)

pub returns-clause-wanting : goal.returns-clause-wanting
returns-clause-wanting c =
    subst (λ (v : StoreRun). OnErr c.run_step.result ((v.run.lost ≡ true) ⊎ MayWantAt v.linked v.run)) c.self.view_is (c.run_step.ensures.wanting tt tt)

pub returns-clause-arguments : goal.returns-clause-arguments
returns-clause-arguments c = subst (λ (v : StoreRun). IfOk c.run_step.result (λ e. ArgumentsFit (set_hosts v.linked) e)) c.self.view_is (c.run_step.ensures.arguments tt tt)
