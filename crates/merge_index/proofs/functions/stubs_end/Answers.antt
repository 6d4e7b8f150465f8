use Rattle.std.proofs.Common.{arith}
use Rattle.merge_index.proofs.FewNumbers.{stubs_room}
use Rattle.merge_index.proofs.functions.stubs_end.Goals as goal

pub overflow_add-next : goal.overflow_add-next
overflow_add-next c =
    let room = stubs_room c.args.refs.now c.loop-r.r-index _ c.stub_size-next.result c.loop-r-test.true c.stub_size-next.ensures c.loop-r.next _ c.loop-r.invariant in
    let few = c.requires in
    omega arith
