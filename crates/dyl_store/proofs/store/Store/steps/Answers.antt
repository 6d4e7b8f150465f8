use Rattle.std.proofs.Common.{◌≡◌, false, subst}
use Rattle.spec_loading.specs.spec_runtime.Courses.{IsAt}
use Rattle.dyl_store.specs.Stores.{StoreRun, set_course}
use Rattle.dyl_store.proofs.store.Store.steps.Goals as goal

pub returns-clause-stands : goal.returns-clause-stands
returns-clause-stands c = subst (λ (v : StoreRun). v.run.lost ≡ false → IsAt (set_course v.linked) v.run) c.self.view_is (λ found. c.stands.ensures.at found tt tt)
