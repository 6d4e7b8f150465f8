use Rattle.std.proofs.Common.{◌≡◌, ◌≤◌, ◌*◌, take}
use Rattle.std.specs.Prelude.{sum_by}
use Rattle.spec_snapshots.specs.Stretches.{entries}
use Rattle.snap_parts.proofs.tables.entries_of.Given as goal

abbrev pub invariant-loop-table : goal.invariant-loop-table
invariant-loop-table l = record {
  sum : l.sum ≡ sum_by entries (take l.table-index l.tables);
  few : l.sum ≤ l.table-index * 1048576;
}
