-- Behind the last call.
use Rattle.std.proofs.lemmas.Result.{IfOk-weaker}
use Rattle.replay_check.proofs.Comparing.{falls_short, ends_traced}
use Rattle.replay_check.proofs.replay.Replay.finish.Goals as goal

pub returns-then-not-branch : goal.returns-then-not-branch
returns-then-not-branch c = λ o met.
    let held = rw c.if-not-branch.true at c.in_ok-reach.ensures.reached in
    let on = c.in_ok-reach.ensures.along o c.args.trace.now met.count met.follows in
    falls_short o c.args.trace.now c.args.self.now met c.reach.new.self on c.in_ok-reach.ensures.more held.0 (held.1 o c.args.trace.now met.count met.follows)

pub stands_at-requires-clause-following : goal.stands_at-requires-clause-following
stands_at-requires-clause-following c =
    let met = c.requires.met in
    (met.0, c.args.trace.now, met.1.count, c.in_ok-reach.ensures.along met.0 c.args.trace.now met.1.count met.1.follows)

pub returns : goal.returns
returns c =
    let there = rw c.if-not-branch.false at c.in_ok-reach.ensures.reached in
    IfOk-weaker c.stands_at.result _ _
    (λ ends stands. λ o met.
    let on = c.in_ok-reach.ensures.along o c.args.trace.now met.count met.follows in
    ends_traced o c.args.trace.now c.args.self.now met c.reach.new.self on c.in_ok-reach.ensures.more there ends (stands o c.args.trace.now met.count on))
    c.stands_at.ensures
