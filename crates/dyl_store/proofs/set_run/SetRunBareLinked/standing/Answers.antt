use Rattle.dyl_store.proofs.SetRuns.{core_stands}
use Rattle.dyl_store.proofs.set_run.SetRunBareLinked.standing.Goals as goal

pub returns-clause-tells : goal.returns-clause-tells
returns-clause-tells c = λ o of s is.
    core_stands c.args.self.now.running.linked.now c.args.self.now.running s c.args.self.now.running.core.machine.standing is.at.standing
