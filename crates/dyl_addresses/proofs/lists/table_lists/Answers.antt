use Rattle.std.proofs.Common.{arith, ap}
use Rattle.dyl_addresses.specs.declared.lists.Space.TheVariants.{Tables}
use Rattle.dyl_addresses.specs.Lists.{size_in}
use Rattle.dyl_addresses.proofs.Ends.{room_for}
use Rattle.dyl_addresses.proofs.lists.table_lists.Goals as goal

pub end_of-end-requires : goal.end_of-end-requires
end_of-end-requires c =
    let room = room_for (size_in Tables) c.args.members.now c.loop-member.member-index c.member-item.result c.loop-member-test.true c.member-item.is
    c.loop-member.next _ c.loop-member.invariant.end c.requires in
    let size = c.size.ensures in
    let same = ap (size_in Tables) c.module-wasm.ensures.same in
    omega arith
