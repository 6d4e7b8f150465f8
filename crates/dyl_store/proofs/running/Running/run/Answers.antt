use Rattle.std.proofs.Common.{refl}
use Rattle.spec_loading.specs.LoadedSet.{set_loading}
use Rattle.dyl_store.specs.declared.running.Running.{Running}
use Rattle.dyl_store.proofs.Loads.{loaded, running_after}
use Rattle.dyl_store.proofs.running.Running.run.Goals as goal

pub returns-clause-ran : goal.returns-clause-ran
returns-clause-ran c = c.run.ensures.ran (set_loading c.args.self.now.linked.now) (loaded c.args.self.now c.requires.running)

pub returns-clause-running : goal.returns-clause-running
returns-clause-running c = λ found.
    let new : Running = record c.args.self.now { world = c.run.new.view; core = c.run.new.self } in
    running_after c.args.self.now new c.requires.running refl refl c.run.ensures.fixed (c.run.ensures.core found) c.run.ensures.members
