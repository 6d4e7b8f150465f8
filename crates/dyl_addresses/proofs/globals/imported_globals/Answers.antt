use Rattle.std.proofs.Common.{arith, ap, length, drop}
use Rattle.std.proofs.lemmas.List.{length-map}
use Rattle.dyl_addresses.specs.Globals.{cells_in, cell_of_key}
use Rattle.dyl_addresses.proofs.Ends.{cells_more}
use Rattle.dyl_addresses.proofs.globals.imported_globals.Goals as goal

pub global_place-requires : goal.global_place-requires
global_place-requires c =
    let keys = c.loop-i.cells.keys in
    let more = cells_more (cells_in keys) (drop c.loop-i.i-index c.args.imports.now) in
    let all = ap length c.loop-i.invariant.cells in
    let many = length-map keys cell_of_key in
    omega (arith, more, all, many, c.requires)
