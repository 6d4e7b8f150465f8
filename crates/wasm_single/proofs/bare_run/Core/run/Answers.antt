use Rattle.wasm_single.proofs.CoreSteps.{runs_after, core_run}
use Rattle.wasm_single.proofs.bare_run.Core.run.Goals as goal

pub returns-clause-ran : goal.returns-clause-ran
returns-clause-ran c =
    runs_after c.args.self.now c.requires.core c.requires.moving c.requires.called c.run.result.0 c.run.result.1 c.run.new.view c.run.new.self c.run.ensures.fixed c.run.ensures.over c.run.ensures.ran

pub returns-clause-core : goal.returns-clause-core
returns-clause-core c =
    core_run c.args.self.now c.requires.core c.requires.moving c.requires.called c.run.result.0 c.run.result.1 c.run.new.view c.run.new.self c.run.ensures.fixed c.run.ensures.over c.run.ensures.ran
