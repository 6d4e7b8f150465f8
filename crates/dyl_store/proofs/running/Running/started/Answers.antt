use Rattle.spec_loading.specs.LoadedSet.{set_loading}
use Rattle.dyl_store.proofs.running.Running.started.Goals as goal

pub returns : goal.returns
returns c = c.started.ensures (set_loading c.args.self.now.linked.now)
