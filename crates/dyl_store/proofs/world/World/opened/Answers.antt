use Rattle.std.proofs.Common.{refl}
use Rattle.dyl_store.proofs.Opened.{parts_same, world_is}
use Rattle.dyl_store.proofs.world.World.opened.Goals as goal

pub invariant_of-result : goal.invariant_of-result
invariant_of-result c =
    let law = c.linked_code_is_there.ensures in
    world_is law.code law.opening _ c.links.ensures.shape c.links.ensures.links c.in_ok-units.ensures
    (parts_same _ _ _ _ _ _ _ _ c.in_ok-globals.ensures c.in_ok-tables.ensures c.in_ok-elems.ensures c.in_ok-datas.ensures)

pub returns : goal.returns
returns c = record {
  linked = refl;
  store = parts_same _ _ _ _ _ _ _ _ c.in_ok-globals.ensures c.in_ok-tables.ensures c.in_ok-elems.ensures c.in_ok-datas.ensures;
  memory = c.in_ok-memory.ensures;
}
