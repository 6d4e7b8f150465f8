use Rattle.std.proofs.Common.{ap, arith, length, refl, ◌++◌, ◌+◌, ◌<◌, ◌∙◌}
use Rattle.merge_whole.specs.Built.{types_of}
use Rattle.merge_whole.proofs.Joins.{member_next}
use Rattle.merge_whole.proofs.built.types.put_members.Goals as goal

pub loop-member-preserved : goal.loop-member-preserved
loop-member-preserved c =
    let lt : c.loop-member.member-index < length c.args.members.now = omega (arith, c.loop-member-test.true) in
    member_next types_of c.args.members.now c.loop-member.member-index c.member-item.result lt c.member-item.is
    c.loop-member.member-index (c.loop-member.member-index + 1) refl c.loop-member.to.items _ _ _ c.module.ensures.same
    (c.in_ok-put_types.ensures ∙ ap (λ ts. c.loop-member.to.items ++ ts) c.items.ensures)
    c.loop-member.invariant
