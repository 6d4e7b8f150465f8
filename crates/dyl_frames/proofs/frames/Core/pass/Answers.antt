use Rattle.std.proofs.Common.{refl}
use Rattle.dyl_frames.proofs.Tasks.{live_mark, pass_steps, finished_core}
use Rattle.dyl_frames.proofs.FewFrames.{few_passed}
use Rattle.dyl_frames.proofs.frames.Core.pass.Goals as goal

pub returns-clause-stepped : goal.returns-clause-stepped
returns-clause-stepped g c D s k =
    let m = live_mark (g.V.View.seen c.args.view.now).fixed (g.V.View.seen c.args.view.now).units (g.V.View.seen c.args.view.now).memory c.args.self.now c.requires.core.sound c.requires.marked in
    pass_steps D s c.args.self.now c.take_top.new.self (g.V.View.seen c.args.view.now).units (g.V.View.seen c.args.view.now).units (g.V.View.seen c.args.view.now).memory (g.V.View.seen c.args.view.now).memory k c.requires.marked.0 m c.args.task c.requires.task c.args.self.now.stages c.take_top.ensures
    refl refl c.requires.member c.requires.behind refl

pub returns-clause-core : goal.returns-clause-core
returns-clause-core g c =
    let w = g.V.View.seen c.args.view.now in
    let m = live_mark w.fixed w.units w.memory c.args.self.now c.requires.core.sound c.requires.marked in
    record {
      sound = finished_core w.fixed w.units w.memory c.args.self.now.stages m.number c.args.self.now c.take_top.new.self c.take_top.ensures m.count c.requires.core.sound refl;
      few = few_passed c.args.self.now c.requires.core.few c.take_top.new.self c.take_top.ensures;
    }
