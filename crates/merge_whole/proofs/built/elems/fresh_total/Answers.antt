use Rattle.std.proofs.Common.{◌<◌, length, ap, arith}
use Rattle.merge_whole.proofs.ElementLists.{fresh_next}
use Rattle.merge_whole.proofs.built.elems.fresh_total.Goals as goal

pub overflow_cast-count : goal.overflow_cast-count
overflow_cast-count c =
    let L = c.args.linked.now in
    let lt : c.loop-m.m < length L.set.members = omega (arith, c.loop-m-test.true, c.member_count-m-end.ensures.count) in
    let step = fresh_next L c.loop-m.m lt c.loop-m.next (length c.fresh.result.now) _ (ap length c.fresh.ensures) c.loop-m.invariant in
    let total = c.requires in
    omega arith

pub overflow_add-next : goal.overflow_add-next
overflow_add-next c =
    let L = c.args.linked.now in
    let lt : c.loop-m.m < length L.set.members = omega (arith, c.loop-m-test.true, c.member_count-m-end.ensures.count) in
    let step = fresh_next L c.loop-m.m lt c.loop-m.next (length c.fresh.result.now) _ (ap length c.fresh.ensures) c.loop-m.invariant in
    let total = c.requires in
    omega arith

pub loop-m-preserved : goal.loop-m-preserved
loop-m-preserved c =
    let L = c.args.linked.now in
    let lt : c.loop-m.m < length L.set.members = omega (arith, c.loop-m-test.true, c.member_count-m-end.ensures.count) in
    fresh_next L c.loop-m.m lt c.loop-m.next (length c.fresh.result.now) _ (ap length c.fresh.ensures) c.loop-m.invariant
