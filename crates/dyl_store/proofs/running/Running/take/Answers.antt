use Rattle.std.proofs.Common.{refl}
use Rattle.spec_loading.specs.LoadedSet.{set_loading}
use Rattle.dyl_store.specs.declared.running.Running.{Running}
use Rattle.dyl_store.proofs.Loads.{loaded, running_after}
use Rattle.dyl_store.proofs.running.Running.take.Goals as goal

pub returns-clause-taken : goal.returns-clause-taken
returns-clause-taken c = c.take.ensures.taken (set_loading c.args.self.now.linked.now) (loaded c.args.self.now c.requires.running)

pub returns-clause-running : goal.returns-clause-running
returns-clause-running c =
    let new : Running = record c.args.self.now { world = c.take.new.view; core = c.take.new.self } in
    running_after c.args.self.now new c.requires.running refl refl c.take.ensures.fixed c.take.ensures.core c.take.ensures.members
