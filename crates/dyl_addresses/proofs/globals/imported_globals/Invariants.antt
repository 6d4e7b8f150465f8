use Rattle.std.proofs.Common.{◌≡◌, ◌++◌, [], drop}
use Rattle.dyl_addresses.specs.Globals.{cells_in, globals_from, cells_from}
use Rattle.dyl_addresses.proofs.globals.imported_globals.Given as goal

abbrev pub invariant-loop-i : goal.invariant-loop-i
invariant-loop-i l = record {
  addresses : l.list.items ++ globals_from l.base (cells_in l.cells.keys) (drop l.i-index l.imports) ≡ globals_from l.base [] l.imports;
  cells : cells_from (cells_in l.cells.keys) (drop l.i-index l.imports) ≡ cells_from [] l.imports;
}
