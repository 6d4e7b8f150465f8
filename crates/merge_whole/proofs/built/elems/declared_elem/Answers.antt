use Rattle.std.proofs.Common.{ap}
use Rattle.merge_index.specs.Kept.{numbers_in}
use Rattle.merge_whole.specs.Elements.{exported_numbers}
use Rattle.merge_whole.proofs.BuiltBodies.{member_next}
use Rattle.merge_whole.proofs.built.elems.declared_elem.Goals as goal

pub loop-m-preserved : goal.loop-m-preserved
loop-m-preserved c =
    let n = numbers_in c.args.n.now in
    member_next (exported_numbers n) c.args.linked.now.set.members c.loop-m.m _ c.member.ensures _ _ _ _ c.loop-m.invariant
    (ap (exported_numbers n c.loop-m.m) c.module.ensures.same) c.in_ok-put_exports.ensures
