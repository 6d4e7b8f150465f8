use Rattle.merge_whole.proofs.Joins.{few_members}
use Rattle.merge_whole.proofs.built.funcs.funcs.Goals as goal

pub put_members-requires : goal.put_members-requires
put_members-requires c = record { few = few_members c.args.linked.now c.links.ensures.shape c.members-members.result.now c.members-members.ensures }

pub put_stubs-requires : goal.put_stubs-requires
put_stubs-requires c = record { few = few_members c.args.linked.now c.links.ensures.shape c.members-members.result.now c.members-members.ensures }
