use Rattle.std.proofs.Common.{◌≡◌, ◌<◌, length, ap, arith}
use Rattle.run_loaded.specs.Courses.{course_of}
use Rattle.replay_check.proofs.Agreeing.{not_traced}
use Rattle.replay_check.proofs.replay.Replay.compare.Goals as goal

pub returns-then-agreeing-items : goal.returns-then-agreeing-items
returns-then-agreeing-items c = λ o begun.
    let t = c.args.trace.now in
    let agreed = c.in_ok-agreeing.ensures o begun in
    let lt : c.in_ok-agreeing.agreeing < length t.calls = omega (arith, ap length c.items.ensures, c.if-agreeing-items.true) in
    (agreed.0, not_traced (course_of o) t c.in_ok-agreeing.agreeing agreed.0 lt)

pub returns-then-branch : goal.returns-then-branch
returns-then-branch c = λ o begun.
    let agreed = c.in_ok-agreeing.ensures o begun in
    let all : c.in_ok-agreeing.agreeing ≡ length c.args.trace.now.calls = omega (arith, ap length c.items.ensures, c.if-agreeing-items.false, agreed.0.within) in
    (c.in_ok-finish.ensures o (agreed.1 all)).0 c.if-branch.true
