-- The next call of the trace agrees, or why it doesn't.
use Rattle.std.proofs.Common.{arith}
use Rattle.run_loaded.specs.Courses.{course_of}
use Rattle.replay_check.specs.Following.{run_of}
use Rattle.replay_check.proofs.Deciding.{not_above, not_behind, not_held}
use Rattle.replay_check.proofs.Replaying.{meets}
use Rattle.replay_check.proofs.replay.Replay.meet.Goals as goal
use Rattle.replay_check.proofs.replay.Replay.meet.Goals.{then-call-most-via-then-call-most, then-call-most-via-else-call-most+then-call-steps}

pub returns-then-call-most-clause-met : goal.returns-then-call-most-clause-met
returns-then-call-most-clause-met c = λ o t k follows at most agrees. elim c.then-call-most.branch [
  | then-call-most-via-then-call-most w ↦
      not_above (course_of o) t k (run_of c.args.self.now) follows.followed k c.args.call.now (omega (arith, w.if-call-most.true)) agrees
  | then-call-most-via-else-call-most+then-call-steps w ↦
      not_behind (course_of o) t k (run_of c.args.self.now) follows.followed c.args.call.now at agrees (omega (arith, w.if-call-steps.true, w.steps.ensures.value))
]

pub returns-then-not-branch-clause-met : goal.returns-then-not-branch-clause-met
returns-then-not-branch-clause-met c = λ o t k follows at most agrees.
    let held = rw c.if-not-branch.true at c.in_ok-reach.ensures.reached in
    not_held (course_of o) t k (run_of c.reach.new.self) (c.in_ok-reach.ensures.along o t k follows).followed c.args.call.now at agrees held.0 (held.1 o t k follows)

pub is_asked-requires : goal.is_asked-requires
is_asked-requires c =
    let f = c.requires.following in
    (f.0, f.1, f.2, c.in_ok-reach.ensures.along f.0 f.1 f.2 f.3)

pub returns-clause-met : goal.returns-clause-met
returns-clause-met c = λ o t k follows at most.
    let there = rw c.if-not-branch.false at c.in_ok-reach.ensures.reached in
    let on = c.in_ok-reach.ensures.along o t k follows in
    meets o t k c.reach.new.self on c.args.call.now at there (omega arith) c.is_asked.result (c.is_asked.ensures o t k on)
