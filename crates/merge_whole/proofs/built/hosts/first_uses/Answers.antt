use Rattle.std.proofs.Common.{arith}
use Rattle.merge_whole.proofs.Joins.{few_members}
use Rattle.merge_whole.proofs.built.hosts.first_uses.Goals as goal

pub note_members-requires : goal.note_members-requires
note_members-requires c =
    let few = few_members c.args.linked.now c.links.ensures.shape c.members.result.now c.members.ensures in
    omega arith
