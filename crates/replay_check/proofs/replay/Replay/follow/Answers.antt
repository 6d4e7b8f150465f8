-- Up to the call that doesn't agree, or with all.
use Rattle.std.proofs.Common.{◌≡◌, ◌+◌, suc, length, inl, inr, refl, ap, sym, ◌∙◌, subst, arith}
use Rattle.run_loaded.specs.Courses.{course_of}
use Rattle.replay_check.specs.Following.{run_of, Follows, HasAgreed}
use Rattle.replay_check.proofs.Asking.{full_due}
use Rattle.replay_check.proofs.Comparing.{call_there, agreed_here, agreed_next, agreed_all}
use Rattle.replay_check.proofs.replay.Replay.follow.Goals as goal
use Rattle.replay_check.proofs.replay.Replay.follow.Goals.{then-call-trace-via-then-call-trace, then-call-trace-via-else-call-trace+then-is_full}

pub returns-then-not-branch : goal.returns-then-not-branch
returns-then-not-branch c = λ o begun.
    let t = c.args.trace.now in
    let k = c.loop-k.k in
    let follows = c.loop-k.invariant.follows o begun in
    let at = call_there c.items-call-items.result.now t.calls k c.call-item.result c.items-call-items.ensures c.loop-k-test.true c.call-item.is in
    let isnt = rw c.if-not-branch.true at (c.in_ok-meet.ensures.met o t k follows at refl) in
    agreed_here o t k c.loop-k.self follows c.call-item.result at isnt c.meet.new.self

pub is_full-requires : goal.is_full-requires
is_full-requires c =
    let f = c.requires.following in
    let t = c.args.trace.now in
    (f.0, t, c.loop-k.k, c.in_ok-meet.ensures.along f.0 t c.loop-k.k (c.loop-k.invariant.follows f.0 f.1))

pub returns-then-call-trace : goal.returns-then-call-trace
returns-then-call-trace c = λ o begun.
    let t = c.args.trace.now in
    let k = c.loop-k.k in
    let follows = c.loop-k.invariant.follows o begun in
    let at = call_there c.items-call-items.result.now t.calls k c.call-item.result c.items-call-items.ensures c.loop-k-test.true c.call-item.is in
    let met = rw c.if-not-branch.false at (c.in_ok-meet.ensures.met o t k follows at refl) in
    let few = c.in_ok-meet.ensures.few c.if-not-branch.false in
    let same : suc k ≡ k + 1 = omega arith in
    subst (λ n. HasAgreed o t n c.meet.new.self) same (agreed_next o t k c.meet.new.self c.call-item.result met few (elim c.then-call-trace.branch [
      | then-call-trace-via-then-call-trace w ↦ inl (met.steps ∙ w.if-call-trace.true)
      | then-call-trace-via-else-call-trace+then-is_full w ↦ inr (full_due (course_of o) (run_of c.meet.new.self) c.meet.new.self.asked met.follows.asks (sym w.if-is_full.ensures))
    ]))

pub take-requires-clause-at : goal.take-requires-clause-at
take-requires-clause-at c =
    let f = c.requires.following in
    let t = c.args.trace.now in
    let k = c.loop-k.k in
    let at = call_there c.items-call-items.result.now t.calls k c.call-item.result c.items-call-items.ensures c.loop-k-test.true c.call-item.is in
    (f.0, t, k, rw c.if-not-branch.false at (c.in_ok-meet.ensures.met f.0 t k (c.loop-k.invariant.follows f.0 f.1) at refl))

pub loop-k-preserved : goal.loop-k-preserved
loop-k-preserved c =
    let f = c.requires.following in
    let t = c.args.trace.now in
    let k = c.loop-k.k in
    let at = call_there c.items-call-items.result.now t.calls k c.call-item.result c.items-call-items.ensures c.loop-k-test.true c.call-item.is in
    let met = rw c.if-not-branch.false at (c.in_ok-meet.ensures.met f.0 t k (c.loop-k.invariant.follows f.0 f.1) at refl) in
    let few = c.in_ok-meet.ensures.few c.if-not-branch.false in
    let same : suc k ≡ k + 1 = omega arith in
    record {
      few = omega (arith, few, met.steps, c.if-call-trace.false, c.in_ok-take.ensures.one);
      follows = λ o begun.
          let there = rw c.if-not-branch.false at (c.in_ok-meet.ensures.met o t k (c.loop-k.invariant.follows o begun) at refl) in
          subst (λ n. Follows o t n c.take.new.self) same (c.in_ok-take.ensures.taken o t k there);
    }

pub returns : goal.returns
returns c = λ o begun.
    let t = c.args.trace.now in
    let k = c.loop-k.k in
    let all : k ≡ length t.calls = omega (arith, ap length c.items-call-items.ensures, c.loop-k-test.false, c.loop-k.auto.k-end) in
    let same : k ≡ length c.items.result.now = all ∙ sym (ap length c.items.ensures) in
    subst (λ n. HasAgreed o t n c.loop-k.self) same (agreed_all o t k c.loop-k.self (c.loop-k.invariant.follows o begun) all c.loop-k.invariant.few)
