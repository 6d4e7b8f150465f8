use Rattle.std.proofs.Common.{◌<◌, refl, ap, ◌∙◌, subst}
use Rattle.spec_loading.specs.declared.task.After.TheVariants.{GiveAndPromote}
use Rattle.spec_loading.specs.Loading.{promoting}
use Rattle.dyl_world.specs.Promoted.{PromotedMembers}
use Rattle.dyl_frames.specs.declared.frames.Core.{Core}
use Rattle.dyl_frames.proofs.Giving.{handle_inside, handed_core, handed_steps, one_less, promoted_kept}
use Rattle.dyl_frames.proofs.FewFrames.{few_handed}
use Rattle.dyl_frames.proofs.frames.Core.promote.Goals as goal

pub add-requires-clause-member : goal.add-requires-clause-member
add-requires-clause-member g c =
    subst (λ n. c.args.member < n) c.requires.linked (handle_inside (g.V.View.seen c.args.view.now) c.args.self.now c.requires.core.sound c.requires.marked c.args.member (GiveAndPromote c.args.member) tt c.requires.handle)

pub add-requires-clause-room : goal.add-requires-clause-room
add-requires-clause-room g c = ap (λ (p : PromotedMembers). p.room) c.drop_top.ensures.promoted ∙ c.requires.core.few.room ∙ c.requires.linked

pub returns-clause-stepped : goal.returns-clause-stepped
returns-clause-stepped g c D promotes s k =
    let w = g.V.View.seen c.args.view.now in
    let old = c.args.self.now in
    let f = c.drop_top.ensures in
    let new : Core = record c.drop_top.new.self { promoted = c.add.new.self } in
    handed_steps w old c.requires.core.sound c.requires.marked c.args.member (GiveAndPromote c.args.member) tt c.requires.handle c.unmark.new.self c.unmark.ensures.unmarked c.give.new.self c.give.ensures.received new
    f.machine f.stages f.frames D c.requires.last s k (promoting D s c.args.member).loader (λ under. refl)
    (promoted_kept D old c.give.new.self c.drop_top.new.self f w.units w.memory s k c.args.linked.now c.args.member promotes c.add.new.self c.add.ensures.list)

pub returns-clause-core : goal.returns-clause-core
returns-clause-core g c =
    let w = g.V.View.seen c.args.view.now in
    let old = c.args.self.now in
    let f = c.drop_top.ensures in
    let new : Core = record c.drop_top.new.self { promoted = c.add.new.self } in
    let less = one_less w old c.requires.core.sound c.requires.marked c.args.member (GiveAndPromote c.args.member) tt c.requires.handle c.unmark.new.self c.unmark.ensures.unmarked c.give.new.self c.give.ensures.received new
    f.machine f.stages f.frames in
    record {
      sound = handed_core w old c.requires.core.sound c.requires.marked c.args.member (GiveAndPromote c.args.member) tt c.requires.handle c.unmark.new.self c.unmark.ensures.unmarked c.give.new.self c.give.ensures.received new
          f.machine f.stages f.frames c.give.ensures.over;
      few = few_handed old c.requires.core.few new less f.stages (c.add.ensures.room ∙ ap (λ (p : PromotedMembers). p.room) f.promoted);
    }
