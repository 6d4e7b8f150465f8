use Rattle.std.proofs.Common.{◌∙◌, arith}
use Rattle.dyl_link.proofs.Indices.{members_count}
use Rattle.dyl_world.proofs.Known.{named_in_set}
use Rattle.dyl_world.proofs.searching.member_named.Goals as goal

pub first_named-requires : goal.first_named-requires
first_named-requires c =
    let few = c.links.ensures.shape.few in
    let count = members_count c.args.linked.now c.members.result.now c.members.ensures in
    omega arith

pub returns : goal.returns
returns c = c.first_named.ensures ∙ named_in_set c.args.linked.now.set c.members.result.now c.members.ensures c.args.name.now
