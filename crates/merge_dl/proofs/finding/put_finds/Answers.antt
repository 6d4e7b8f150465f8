use Rattle.std.proofs.Common.{◌≤◌, [], ◌∷◌, ◌++◌, length, ap, ◌∙◌, arith}
use Rattle.merge_dl.specs.Listed.{find_parts}
use Rattle.merge_dl.proofs.Making.{member_next, member_last}
use Rattle.merge_dl.proofs.finding.put_finds.Goals as goal

pub loop-m-preserved : goal.loop-m-preserved
loop-m-preserved c =
    let L = c.args.linked.now in
    member_next (find_parts L) L.set.members c.loop-m.m _ c.member.ensures c.loop-m.to.items _ _ _ c.module-wasm.ensures.same
    (c.in_ok-push.ensures.items ∙ ap (λ p. c.loop-m.to.items ++ p ∷ []) c.in_ok-find_function.ensures)
    c.loop-m.invariant

pub returns : goal.returns
returns c =
    let L = c.args.linked.now in
    let all : length L.set.members ≤ c.loop-m.m = omega (arith, c.loop-m-test.false, c.member_count-m-end.ensures.count) in
    member_last (find_parts L) c.loop-m.m L.set.members all c.loop-m.to.items _ c.loop-m.invariant
