use Rattle.std.proofs.Common.{refl}
use Rattle.dyl_frames.specs.Cores.{raised_stages}
use Rattle.dyl_frames.proofs.Tasks.{live_mark, nothing_steps, finished_core, raised_count}
use Rattle.dyl_frames.proofs.FewFrames.{few_finished}
use Rattle.dyl_frames.proofs.frames.Core.call_nothing.Goals as goal

pub returns-clause-stepped : goal.returns-clause-stepped
returns-clause-stepped g c D none s k =
    let m = live_mark (g.V.View.seen c.args.view.now).fixed (g.V.View.seen c.args.view.now).units (g.V.View.seen c.args.view.now).memory c.args.self.now c.requires.core.sound c.requires.marked in
    nothing_steps D s c.args.self.now c.finish.new.self (g.V.View.seen c.args.view.now).units (g.V.View.seen c.args.view.now).units (g.V.View.seen c.args.view.now).memory (g.V.View.seen c.args.view.now).memory k c.requires.marked.0 m c.args.task c.requires.task (raised_stages c.args.self.now c.args.task) c.finish.ensures
    refl refl c.requires.behind refl c.requires.calls none

pub returns-clause-core : goal.returns-clause-core
returns-clause-core g c =
    let w = g.V.View.seen c.args.view.now in
    let old = c.args.self.now in
    let task = c.args.task in
    let m = live_mark w.fixed w.units w.memory old c.requires.core.sound c.requires.marked in
    record {
      sound = finished_core w.fixed w.units w.memory (raised_stages old task) m.number old c.finish.new.self c.finish.ensures m.count c.requires.core.sound (raised_count old task);
      few = few_finished old c.requires.core.few task old.machine c.finish.new.self c.requires.behind c.finish.ensures;
    }
