use Rattle.std.proofs.Common.{◌≡◌, ◌-◌, map, take, drop}
use Rattle.merge_match.specs.Renumbering.{entry}
use Rattle.merge_index.specs.Kept.{numbers_in}
use Rattle.snap_module.specs.Held.{entry_expr}
use Rattle.snap_parts.proofs.tables.entries_at.Given as goal

abbrev pub invariant-loop-i : goal.invariant-loop-i
invariant-loop-i l =
    l.list.items ≡ map entry_expr (take (l.i - l.fn.piece.at) (drop l.fn.piece.at (map (entry (numbers_in l.numbers)) l.table.entries)))
