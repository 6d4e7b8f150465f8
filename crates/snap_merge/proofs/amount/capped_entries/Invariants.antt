use Rattle.std.proofs.Common.{◌≡◌, ◌≤◌, ◌+◌, min, drop}
use Rattle.std.specs.Prelude.{sum_by}
use Rattle.spec_snapshots.specs.Stretches.{entries}
use Rattle.snap_merge.proofs.amount.capped_entries.Given as goal

abbrev pub invariant-loop-table : goal.invariant-loop-table
invariant-loop-table l = record {
  few : l.all ≤ 4294967296;
  told : min (l.all + sum_by entries (drop l.table-index l.tables)) 4294967296 ≡ min (sum_by entries l.tables) 4294967296;
}
