use Rattle.std.proofs.Common.{true≢false, sym, ◌∙◌}
use Rattle.replay_check.proofs.Replaying.{none_stands}
use Rattle.replay_check.proofs.replay.Replay.own_end.Goals as goal
use Rattle.replay_check.proofs.replay.Replay.own_end.Goals.{then-ended, else-ended}

pub returns : goal.returns
returns c = λ o t k follows. elim c.if-ended.branch [
  | then-ended w ↦ absurd (true≢false (sym w.if-ended.true ∙ sym w.value-is ∙ c.if-is_deep.false))
  | else-ended w ↦
      none_stands o t k c.args.self.now follows c.run_step.new.self (c.run_step.ensures.kept o follows.of) c.in_ok-event.event
      (sym c.if-is_some.ensures) (sym (c.has_ended-ended.ensures follows.followed.stands.found o follows.of) ∙ w.if-ended.false) (sym w.is_deep.ensures ∙ sym w.value-is ∙ c.if-is_deep.false) (c.in_ok-event.ensures.stepped o follows.of).1
]
