use Rattle.std.proofs.Common.{◌≡◌, false, subst}
use Rattle.spec_loading.specs.spec_runtime.Courses.{state_at}
use Rattle.dyl_store.specs.Stores.{StoreRun, set_course}
use Rattle.dyl_store.specs.Runs.{IsRunning}
use Rattle.dyl_store.specs.SetRuns.{IsTold}
use Rattle.dyl_store.proofs.store.Store.bare.Goals as goal

pub returns-clause-running : goal.returns-clause-running
returns-clause-running c = subst (λ (v : StoreRun). v.run.lost ≡ false → IsRunning c.bare.result.now.running) c.self.view_is c.bare.ensures.sound

pub returns-clause-told : goal.returns-clause-told
returns-clause-told c =
    subst (λ (v : StoreRun). v.run.lost ≡ false → IsTold v.linked c.bare.result.now (state_at (set_course v.linked) v.run)) c.self.view_is (λ found. (c.bare.ensures.stands found tt tt).1)
