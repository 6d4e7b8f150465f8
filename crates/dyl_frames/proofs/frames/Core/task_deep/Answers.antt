use Rattle.std.proofs.Common.{sym, ◌∙◌, false}
use Rattle.dyl_frames.specs.Cores.{TellsDeep}
use Rattle.dyl_frames.proofs.Deep.{place_tells, passed_tells, task_tells}
use Rattle.dyl_frames.proofs.frames.Core.task_deep.Goals as goal
use Rattle.dyl_frames.proofs.frames.Core.task_deep.Goals.{then-is_place-via-then-is_place, then-is_place-via-else-is_place+then-not-is_behind}

pub returns-then-is_place : goal.returns-then-is_place
returns-then-is_place g c D loaded callee =
    let w = g.V.View.seen c.args.view.now in
    elim c.then-is_place.branch as (λ _. TellsDeep D false c.args.self.now w) [
      | then-is_place-via-then-is_place b ↦ place_tells D w loaded c.args.self.now c.requires.core.sound c.requires.marked c.args.task c.requires.task (c.is_place.ensures.places b.if-is_place.true)
      | then-is_place-via-else-is_place+then-not-is_behind b ↦ passed_tells D w loaded c.args.self.now c.requires.core.sound c.requires.marked c.args.task c.requires.task c.requires.member (sym b.is_behind.ensures ∙ b.if-not-is_behind.true)
    ]

pub returns-in-Some : goal.returns-in-Some
returns-in-Some g c D loaded callee =
    let w = g.V.View.seen c.args.view.now in
    let callee_is = rw c.in-Some.is at callee in
    task_tells D w loaded c.args.self.now c.requires.core.sound c.requires.marked c.args.task c.requires.task (sym c.is_behind.ensures ∙ c.if-not-is_behind.false) (c.is_place.ensures.calls c.if-is_place.false) c.in-Some.r c.begin_deep.result callee_is c.begin_deep.ensures
