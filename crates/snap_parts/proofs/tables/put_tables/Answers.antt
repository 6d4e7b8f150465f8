use Rattle.std.proofs.Common.{ℕ, ◌<◌, ◌+◌, ap, subst, arith, length, rules}
use Rattle.merge_match.specs.Renumbering.{table_instance}
use Rattle.merge_index.specs.Kept.{numbers_in}
use Rattle.snap_parts.specs.Segments.{TableWritten}
use Rattle.snap_parts.proofs.TableEntries.{tables_none, tables_next}
use Rattle.snap_parts.proofs.tables.put_tables.Goals as goal

pub loop-table-init : goal.loop-table-init
loop-table-init c = record { at = search rules; put = tables_none c.args.gap c.args.to.now.items }

pub loop-table-preserved : goal.loop-table-preserved
loop-table-preserved c =
    let n = numbers_in c.args.numbers.now in
    let lt : c.loop-table.table-index < length c.args.tables.now = omega arith in
    record {
      at = ap (λ k. k + 1) c.loop-table.invariant.at;
      put = tables_next n c.args.gap c.args.tables.now c.loop-table.table-index c.table-item.result lt c.table-item.is c.args.to.now.items
          c.loop-table.to.items c.put_table.new.to.items c.loop-table.invariant.put
          (subst (λ (k : ℕ). TableWritten c.args.gap k (table_instance n c.table-item.result) c.loop-table.to.items c.put_table.new.to.items)
          c.loop-table.invariant.at c.in_ok-put_table.ensures);
    }
