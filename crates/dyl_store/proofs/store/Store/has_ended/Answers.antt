use Rattle.std.proofs.Common.{◌≡◌, false, subst}
use Rattle.spec_loading.specs.spec_runtime.Recorded.{has_ended}
use Rattle.spec_loading.specs.spec_runtime.Courses.{status_at}
use Rattle.dyl_store.specs.Stores.{StoreRun, set_course}
use Rattle.dyl_store.proofs.store.Store.has_ended.Goals as goal

pub returns : goal.returns
returns c =
    subst (λ (v : StoreRun). v.run.lost ≡ false → c.has_ended.result ≡ has_ended (status_at (set_course v.linked) v.run)) c.self.view_is (λ found. c.has_ended.ensures found tt tt)
