use Rattle.std.proofs.Common.{rules}
use Rattle.dyl_world.proofs.Room.{not_among, has_room, one_more, one_more_is}
use Rattle.dyl_world.proofs.promoted.Promoted.add_one.Goals as goal

pub index_mut-requires : goal.index_mut-requires
index_mut-requires c =
    let new = not_among c.args.m c.list.result.now c.args.self.now.list c.contains.result c.list.ensures c.contains.ensures.value c.if-contains.false in
    let room = has_room c.self.inside.members.items c.self.inside.count c.args.m c.self.invariant c.args.self.now c.self.view_is c.requires new in
    search rules

pub invariant_of-self : goal.invariant_of-self
invariant_of-self c =
    let new = not_among c.args.m c.list.result.now c.args.self.now.list c.contains.result c.list.ensures c.contains.ensures.value c.if-contains.false in
    one_more c.self.inside.members.items c.self.inside.count c.args.m c.self.invariant c.args.self.now c.self.view_is c.requires new

pub returns : goal.returns
returns c =
    let new = not_among c.args.m c.list.result.now c.args.self.now.list c.contains.result c.list.ensures c.contains.ensures.value c.if-contains.false in
    one_more_is c.self.inside.members.items c.self.inside.count c.args.m c.self.invariant c.args.self.now c.self.view_is c.requires new
