use Rattle.std.proofs.Common.{ap, ◌∙◌}
use Rattle.dyl_addresses.specs.Globals.{CellKey, cells_in}
use Rattle.dyl_addresses.proofs.Keys.{key_eq, key_is, keys_are}
use Rattle.merge_whole.proofs.GlobalLists.{new_first}
use Rattle.merge_whole.proofs.built.globals.is_new.Goals as goal

pub returns-clause-cells : goal.returns-clause-cells
returns-clause-cells c =
    let key : CellKey = (c.args.slot, c.args.name) in
    ap cells_in c.in_ok-added.ensures.keys ∙ keys_are key_eq key_is key c.args.cells.now.keys

pub returns-clause-new : goal.returns-clause-new
returns-clause-new c =
    let key : CellKey = (c.args.slot, c.args.name) in
    new_first c.args.cells.now.keys key _ c.in_ok-added.ensures.added
