use Rattle.dyl_store.proofs.Standing.{started_here}
use Rattle.dyl_store.proofs.store.Store.started.Goals as goal

pub returns : goal.returns
returns c = λ found. started_here c.args.self.now c.bare.result.now.running c.bare.ensures.linked (c.bare.ensures.told found).at c.started.result c.started.ensures
