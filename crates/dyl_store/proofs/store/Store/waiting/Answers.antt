use Rattle.std.proofs.Common.{◌≡◌, false, subst}
use Rattle.spec_loading.specs.spec_runtime.Courses.{is_waiting}
use Rattle.dyl_store.specs.Stores.{StoreRun, set_course}
use Rattle.dyl_store.proofs.store.Store.waiting.Goals as goal

pub returns : goal.returns
returns c =
    subst (λ (v : StoreRun). v.run.lost ≡ false → c.waiting.result ≡ is_waiting (set_course v.linked) v.run) c.self.view_is (λ found. c.waiting.ensures found tt tt)
