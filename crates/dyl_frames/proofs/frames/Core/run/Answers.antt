use Rattle.dyl_frames.proofs.Running.{runs_from, runs_core}
use Rattle.dyl_frames.proofs.frames.Core.run.Goals as goal

pub returns-clause-ran : goal.returns-clause-ran
returns-clause-ran g c =
    runs_from (g.V.View.seen c.args.view.now) c.args.self.now c.requires.core c.requires.moving (g.V.View.seen c.run_apart.new.view) c.run_apart.result.0 c.run_apart.result.1 c.run_apart.new.self c.run_apart.ensures.over c.run_apart.ensures.ran

pub returns-clause-core : goal.returns-clause-core
returns-clause-core g c =
    runs_core (g.V.View.seen c.args.view.now) c.args.self.now c.requires.core c.requires.moving (g.V.View.seen c.run_apart.new.view) c.run_apart.result.0 c.run_apart.result.1 c.run_apart.new.self c.run_apart.ensures.over c.run_apart.ensures.ran
