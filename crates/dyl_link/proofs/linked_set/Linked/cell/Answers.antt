use Rattle.std.proofs.Common.{◌≡◌, None, sym, ◌∙◌}
use Rattle.spec_loading.specs.spec_linking.Slots.{imported_number}
use Rattle.dyl_link.proofs.InitialValues.{cell_there}
use Rattle.dyl_link.proofs.linked_set.Linked.cell.Goals as goal

pub unreachable-requires : goal.unreachable-requires
unreachable-requires c =
    let there = (cell_there c.args.self.now c.links.ensures.links c.args.m c.args.g c.requires).1 in
    let none : None ≡ imported_number c.args.self.now c.args.m c.args.g = sym c.in-None.is ∙ c.find_cell.ensures in
    cc
