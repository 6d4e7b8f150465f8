use Rattle.std.proofs.Common.{refl, ap}
use Rattle.spec_loading.specs.declared.task.After.TheVariants.{GiveHandle}
use Rattle.dyl_world.specs.Promoted.{PromotedMembers}
use Rattle.dyl_frames.proofs.Giving.{handed_core, handed_steps, one_less, still_kept}
use Rattle.dyl_frames.proofs.FewFrames.{few_handed}
use Rattle.dyl_frames.proofs.frames.Core.hand_over.Goals as goal

pub returns-clause-stepped : goal.returns-clause-stepped
returns-clause-stepped g c D s k =
    let w = g.V.View.seen c.args.view.now in
    let old = c.args.self.now in
    let f = c.drop_top.ensures in
    handed_steps w old c.requires.core.sound c.requires.marked c.args.member (GiveHandle c.args.member) tt c.requires.handle c.unmark.new.self c.unmark.ensures.unmarked c.give.new.self c.give.ensures.received c.drop_top.new.self
    f.machine f.stages f.frames D c.requires.last s k s.loader (λ under. refl) (still_kept D old c.give.new.self c.drop_top.new.self f w.units w.memory s k)

pub returns-clause-core : goal.returns-clause-core
returns-clause-core g c =
    let w = g.V.View.seen c.args.view.now in
    let old = c.args.self.now in
    let f = c.drop_top.ensures in
    let less = one_less w old c.requires.core.sound c.requires.marked c.args.member (GiveHandle c.args.member) tt c.requires.handle c.unmark.new.self c.unmark.ensures.unmarked c.give.new.self c.give.ensures.received c.drop_top.new.self
    f.machine f.stages f.frames in
    record {
      sound = handed_core w old c.requires.core.sound c.requires.marked c.args.member (GiveHandle c.args.member) tt c.requires.handle c.unmark.new.self c.unmark.ensures.unmarked c.give.new.self c.give.ensures.received c.drop_top.new.self
          f.machine f.stages f.frames c.give.ensures.over;
      few = few_handed old c.requires.core.few c.drop_top.new.self less f.stages (ap (λ (p : PromotedMembers). p.room) f.promoted);
    }
