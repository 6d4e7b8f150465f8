use Rattle.std.proofs.Common.{◌≡◌, ◌<◌, ◌⊎◌, true, OnOk, OnErr, subst}
use Rattle.spec_loading.specs.spec_runtime.Courses.{state_at}
use Rattle.wasm_machine.specs.Steps.{AreOfCode}
use Rattle.dyl_store.specs.Stores.{StoreRun, set_course, HadCodeOnTop, MayWantAt}
use Rattle.dyl_store.specs.SetRuns.{IsCodeNext}
use Rattle.dyl_store.proofs.store.Store.advance.Goals as goal

pub returns-clause-code : goal.returns-clause-code
returns-clause-code c = subst (λ (v : StoreRun). AreOfCode (set_course v.linked) v.run c.advance.new.self.run) c.self.view_is (c.advance.ensures.code tt tt)

pub returns-clause-tops : goal.returns-clause-tops
returns-clause-tops c = subst (λ (v : StoreRun). HadCodeOnTop v.linked v.run c.advance.new.self.run) c.self.view_is (c.advance.ensures.tops tt tt)

pub returns-clause-left : goal.returns-clause-left
returns-clause-left c =
    let y = c.advance.new.self.run in
    subst (λ (v : StoreRun). OnOk c.advance.result (y.steps < c.args.most → IsCodeNext v.linked (state_at (set_course v.linked) y) → ⊥)) c.self.view_is (c.advance.ensures.left tt tt)

pub returns-clause-wanting : goal.returns-clause-wanting
returns-clause-wanting c =
    subst (λ (v : StoreRun). OnErr c.advance.result ((v.run.lost ≡ true) ⊎ MayWantAt v.linked c.advance.new.self.run)) c.self.view_is (c.advance.ensures.wanting tt tt)
