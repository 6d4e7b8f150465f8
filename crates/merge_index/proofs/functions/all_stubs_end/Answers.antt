use Rattle.std.proofs.Common.{ap, arith}
use Rattle.merge_index.specs.Lists.{stubs_end}
use Rattle.merge_index.proofs.FewNumbers.{all_room}
use Rattle.merge_index.proofs.functions.all_stubs_end.Goals as goal

pub stubs_end-next-requires : goal.stubs_end-next-requires
stubs_end-next-requires c =
    let room = all_room c.args.refs.now c.loop-named.named-index c.named-item.result c.loop-named-test.true c.named-item.is c.loop-named.next _ c.loop-named.invariant in
    let same = ap (stubs_end c.loop-named.next) c.items.ensures in
    let few = c.requires in
    omega arith
