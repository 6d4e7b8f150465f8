-- A step that is made, or isn't.
use Rattle.std.proofs.Common.{refl, sym}
use Rattle.replay_check.proofs.Replaying.{held_asked, held_ended, moves, goes_on}
use Rattle.replay_check.proofs.replay.Replay.step.Goals as goal
use Rattle.replay_check.proofs.replay.Replay.step.Goals.{then-is_some-via-then-is_some, then-is_some-via-else-is_some+then-has_ended}

pub returns-then-is_some-clause-goes : goal.returns-then-is_some-clause-goes
returns-then-is_some-clause-goes c = (
  refl,
  λ o t k follows. elim c.then-is_some.branch [
    | then-is_some-via-then-is_some w ↦ held_asked o t k c.args.self.now follows (sym w.if-is_some.ensures)
    | then-is_some-via-else-is_some+then-has_ended w ↦ held_ended o t k c.args.self.now follows (sym (w.if-has_ended.ensures follows.followed.stands.found o follows.of))
  ],
)

pub returns-clause-along : goal.returns-clause-along
returns-clause-along c = λ o t k follows.
    let r = c.args.self.now in
    let moving = moves o t k r follows (sym c.if-is_some.ensures) (sym (c.if-has_ended.ensures follows.followed.stands.found o follows.of)) in
    (goes_on o t k r follows c.run_step.new.self (c.run_step.ensures.kept o follows.of) c.in_ok-event.event c.asked_by.result c.asked_by.ensures moving (sym c.if-is_deep.ensures) (c.in_ok-event.ensures.stepped o follows.of).1).0
