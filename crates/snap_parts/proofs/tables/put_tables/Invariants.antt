use Rattle.std.proofs.Common.{◌≡◌, map, take}
use Rattle.merge_match.specs.Renumbering.{table_instance}
use Rattle.merge_index.specs.Kept.{numbers_in}
use Rattle.snap_parts.specs.Segments.{TablesWritten}
use Rattle.snap_parts.proofs.tables.put_tables.Given as goal

abbrev pub invariant-loop-table : goal.invariant-loop-table
invariant-loop-table l = record {
  at : l.t ≡ l.table-index;
  put : TablesWritten l.gap (map (table_instance (numbers_in l.numbers)) (take l.table-index l.tables)) l.fn.to.items l.to.items;
}
