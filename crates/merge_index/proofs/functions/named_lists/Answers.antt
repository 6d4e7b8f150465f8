use Rattle.std.proofs.Common.{ap, arith}
use Rattle.merge_index.specs.Lists.{stubs_end}
use Rattle.merge_index.proofs.FewNumbers.{all_room}
use Rattle.merge_index.proofs.functions.named_lists.Goals as goal

pub named_from-requires : goal.named_from-requires
named_from-requires c =
    let room = all_room c.args.refs.now c.loop-named.named-index c.named-item.result c.loop-named-test.true c.named-item.is c.loop-named.next _ c.loop-named.invariant.end in
    let same = ap (stubs_end c.loop-named.next) c.items.ensures in
    let few = c.requires in
    omega arith
