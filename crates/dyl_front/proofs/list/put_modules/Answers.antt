use Rattle.std.proofs.Common.{◌≤◌, length, arith}
use Rattle.dyl_front.proofs.Listings.{modules_next, modules_last}
use Rattle.dyl_front.proofs.list.put_modules.Goals as goal

pub loop-m-preserved : goal.loop-m-preserved
loop-m-preserved c =
    let L = c.args.linked.now in
    modules_next L L.set.members c.loop-m.m _ c.member.ensures _ _ c.memory_base-memory.ensures c.table_base-table.ensures c.loop-m.to.items _ _ c.in_ok-put_module.ensures c.loop-m.invariant

pub returns : goal.returns
returns c =
    let L = c.args.linked.now in
    let all : length L.set.members ≤ c.loop-m.m = omega (arith, c.loop-m-test.false, c.member_count-m-end.ensures.count) in
    modules_last L L.set.members c.loop-m.m all c.loop-m.to.items _ c.loop-m.invariant
