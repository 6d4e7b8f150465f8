use Rattle.std.proofs.Common.{◌≡◌, false, subst}
use Rattle.spec_loading.specs.spec_runtime.Courses.{memory_at}
use Rattle.dyl_store.specs.Stores.{StoreRun, set_course}
use Rattle.dyl_store.proofs.store.Store.memory.Goals as goal

pub returns : goal.returns
returns c =
    subst (λ (v : StoreRun). v.run.lost ≡ false → c.memory.result.now ≡ memory_at (set_course v.linked) v.run) c.self.view_is (λ found. c.memory.ensures found tt tt)
