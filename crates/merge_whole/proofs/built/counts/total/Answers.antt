use Rattle.std.proofs.Common.{arith, ap}
use Rattle.merge_whole.specs.Counts.{size_in}
use Rattle.merge_whole.proofs.FewNumbers.{total_room}
use Rattle.merge_whole.proofs.built.counts.total.Goals as goal

pub overflow_cast-size : goal.overflow_cast-size
overflow_cast-size c =
    let room = total_room (size_in c.args.space) c.args.members.now c.loop-member.member-index c.member-item.result c.loop-member-test.true c.member-item.is
    c.loop-member.next _ c.loop-member.invariant in
    let size = c.size-size.ensures in
    let same = ap (size_in c.args.space) c.module.ensures.same in
    omega arith

pub overflow_add-next : goal.overflow_add-next
overflow_add-next c =
    let room = total_room (size_in c.args.space) c.args.members.now c.loop-member.member-index c.member-item.result c.loop-member-test.true c.member-item.is
    c.loop-member.next _ c.loop-member.invariant in
    let size = c.size-size.ensures in
    let same = ap (size_in c.args.space) c.module.ensures.same in
    omega arith
