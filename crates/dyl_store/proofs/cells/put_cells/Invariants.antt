use Rattle.std.proofs.Common.{◌≡◌, ◌≤◌, drop}
use Rattle.dyl_store.specs.Opening.{global_place, with_imports}
use Rattle.dyl_store.proofs.cells.put_cells.Given as goal
use Rattle.spec_loading.specs.spec_linking.Slots.{imported_number}

abbrev pub invariant-loop-i : goal.invariant-loop-i
invariant-loop-i l = record {
  put : with_imports (global_place l.addresses l.m) (imported_number l.linked l.m) l.to.items l.g (drop l.i-index l.imports)
      ≡ with_imports (global_place l.addresses l.m) (imported_number l.linked l.m) l.fn.to.items 0 l.imports;
  few : l.g ≤ l.i-index;
}
