use Rattle.std.proofs.Common.{◌≡◌, ◌≤◌, [], ◌++◌, drop}
use Rattle.dyl_addresses.specs.Globals.{cells_in}
use Rattle.merge_whole.specs.GlobalDefs.{cells_by}
use Rattle.merge_whole.proofs.built.globals.put_cells.Given as goal

abbrev pub invariant-loop-i : goal.invariant-loop-i
invariant-loop-i l = record {
  put : l.to.items ++ cells_by l.linked l.m (cells_in l.cells.keys) l.g (drop l.i-index l.imports) ≡ l.fn.to.items ++ cells_by l.linked l.m [] 0 l.imports;
  at : l.g ≤ l.i-index;
}
