use Rattle.std.proofs.Common.{refl, sym, ◌∙◌}
use Rattle.dyl_frames.specs.declared.frames.Core.{Core}
use Rattle.dyl_frames.proofs.Tasks.{live_mark}
use Rattle.dyl_frames.proofs.Entering.{entered_steps, entered_core, deep_steps, may_mark, back_core, back, bare, bare_moving, bare_start}
use Rattle.dyl_frames.proofs.FewFrames.{few_entered, few_same}
use Rattle.dyl_frames.proofs.frames.Core.enter.Goals as goal

pub begin-requires : goal.begin-requires
begin-requires g c κs =
    let w = (g.V.View.seen c.args.view.now) in
    let m = live_mark w.fixed w.units w.memory c.args.self.now c.requires.core.sound c.requires.marked in
    let u = c.unmark.new.self in
    let off = c.unmark.ensures.unmarked in
    ((refl, tt), (c.unmark.ensures.over, (bare_start u (bare_moving c.args.self.now m c.requires.entry u off) (bare c.args.self.now m c.requires.entry u off), c.requires.nullary)))

pub mark-requires : goal.mark-requires
mark-requires g c κs =
    let called = c.in_ok-event.ensures in
    ((refl, tt), (called.over, may_mark (g.V.View.seen c.args.view.now) c.args.self.now c.requires.core.sound c.requires.marked c.requires.entry c.args.r c.requires.own c.unmark.new.self c.begin.new.self c.unmark.ensures.unmarked c.in_ok-event.event called.told called.over (sym c.is_deep.ensures ∙ c.if-is_deep.true)))

pub returns-clause-stepped : goal.returns-clause-stepped
returns-clause-stepped g c D loaded entry s k =
    entered_steps (g.V.View.seen c.args.view.now) c.args.self.now c.requires.core.sound c.requires.marked c.requires.entry c.args.r c.requires.own c.unmark.new.self c.begin.new.self c.unmark.ensures.unmarked c.in_ok-event.event c.in_ok-event.ensures.told c.in_ok-event.ensures.over
    D loaded c.requires.last entry s k _ refl refl (sym c.is_deep.ensures ∙ c.if-is_deep.false)

pub returns-clause-core : goal.returns-clause-core
returns-clause-core g c =
    let new : Core = record { machine = c.begin.new.self; frames = c.clear.new.self; stages = c.args.self.now.stages; promoted = c.args.self.now.promoted; error = c.args.self.now.error } in
    let few = few_entered c.args.self.now c.requires.core.few new c.clear.ensures.items refl refl in
    let sound = entered_core (g.V.View.seen c.args.view.now) c.args.self.now c.requires.core.sound c.requires.marked c.requires.entry c.args.r c.requires.own c.unmark.new.self c.begin.new.self c.unmark.ensures.unmarked c.in_ok-event.event c.in_ok-event.ensures.told c.in_ok-event.ensures.over
    new refl c.clear.ensures.items refl (sym c.is_deep.ensures ∙ c.if-is_deep.false) in
    record { sound = sound; few = few }

pub returns-then-is_deep-clause-stepped : goal.returns-then-is_deep-clause-stepped
returns-then-is_deep-clause-stepped g c D loaded entry s k =
    deep_steps (g.V.View.seen c.args.view.now) c.args.self.now c.requires.core.sound c.requires.marked c.requires.entry c.args.r c.requires.own c.unmark.new.self c.begin.new.self c.unmark.ensures.unmarked c.in_ok-event.event c.in_ok-event.ensures.told c.in_ok-event.ensures.over
    D loaded c.requires.last entry s k c.mark.new.self c.in_ok-mark.ensures.marked (sym c.is_deep.ensures ∙ c.if-is_deep.true)

pub returns-then-is_deep-clause-core : goal.returns-then-is_deep-clause-core
returns-then-is_deep-clause-core g c =
    let called = c.in_ok-event.ensures in
    let sound = back_core (g.V.View.seen c.args.view.now) c.args.self.now c.requires.core.sound c.requires.marked c.requires.entry c.args.r c.requires.own c.unmark.new.self c.begin.new.self c.unmark.ensures.unmarked c.in_ok-event.event called.told called.over (sym c.is_deep.ensures ∙ c.if-is_deep.true)
    c.mark.new.self c.in_ok-mark.ensures.marked in
    let same = back (g.V.View.seen c.args.view.now) c.args.self.now c.requires.core.sound c.requires.marked c.requires.entry c.args.r c.requires.own c.unmark.new.self c.begin.new.self c.unmark.ensures.unmarked c.in_ok-event.event called.told called.over (sym c.is_deep.ensures ∙ c.if-is_deep.true)
    c.mark.new.self c.in_ok-mark.ensures.marked in
    record { sound = sound; few = few_same c.args.self.now c.requires.core.few c.mark.new.self same }
