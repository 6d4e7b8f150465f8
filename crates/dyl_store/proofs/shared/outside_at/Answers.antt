use Rattle.std.proofs.Common.{arith}
use Rattle.dyl_store.proofs.SharedTable.{ends, outside_small}
use Rattle.dyl_store.proofs.shared.outside_at.Goals as goal

pub first_slot-requires : goal.first_slot-requires
first_slot-requires c = omega (arith, c.last_member-last.ensures)

pub fresh-requires : goal.fresh-requires
fresh-requires c = omega (arith, c.last_member-last.ensures)

pub overflow_cast-result : goal.overflow_cast-result
overflow_cast-result c =
    let all = ends c.args.linked.now c.last_member-last.result c.first_slot.result c.fresh.result.now c.last_member-last.ensures c.first_slot.ensures c.fresh.ensures in
    let small = outside_small c.args.linked.now c.links.ensures.links in
    omega arith

pub overflow_add-result : goal.overflow_add-result
overflow_add-result c =
    let all = ends c.args.linked.now c.last_member-last.result c.first_slot.result c.fresh.result.now c.last_member-last.ensures c.first_slot.ensures c.fresh.ensures in
    let small = outside_small c.args.linked.now c.links.ensures.links in
    omega arith

pub returns : goal.returns
returns c = ends c.args.linked.now c.last_member-last.result c.first_slot.result c.fresh.result.now c.last_member-last.ensures c.first_slot.ensures c.fresh.ensures
