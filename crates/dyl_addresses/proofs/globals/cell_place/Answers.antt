use Rattle.std.proofs.Common.{◌+◌, Some, ap, sym, ◌∙◌, arith}
use Rattle.dyl_addresses.specs.Globals.{CellKey, cell_named, cells_in, cell_place}
use Rattle.dyl_addresses.proofs.Keys.{key_eq, key_is, keys_are, place_is, position_within}
use Rattle.dyl_addresses.proofs.globals.cell_place.Goals as goal

pub returns-clause-cells : goal.returns-clause-cells
returns-clause-cells c =
    let key : CellKey = (c.args.slot, c.args.name) in
    ap cells_in c.in_ok-index.ensures.keys ∙ keys_are key_eq key_is key c.args.cells.now.keys

pub returns-clause-place : goal.returns-clause-place
returns-clause-place c =
    let key : CellKey = (c.args.slot, c.args.name) in
    let known = c.args.cells.now.keys in
    let cells = ap cells_in c.in_ok-index.ensures.keys ∙ keys_are key_eq key_is key known in
    ap Some (c.end_of.ensures ∙ ap (λ n. c.args.first + n) c.in_ok-index.ensures.index)
    ∙ place_is key_eq key_is key c.args.first known
    ∙ ap (λ l. cell_place c.args.first l (cell_named c.args.slot c.args.name.now)) (sym cells)

pub end_of-requires : goal.end_of-requires
end_of-requires c =
    let key : CellKey = (c.args.slot, c.args.name) in
    let place = c.in_ok-index.ensures.index in
    let within = position_within (key_eq key) c.args.cells.now.keys in
    omega (arith, place, within, c.requires)
