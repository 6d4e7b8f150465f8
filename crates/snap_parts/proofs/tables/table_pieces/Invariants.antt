use Rattle.std.proofs.Common.{map, None}
use Rattle.merge_match.specs.Renumbering.{Numbers, entry}
use Rattle.snap_parts.specs.Found.{AreFound}
use Rattle.snap_parts.proofs.tables.table_pieces.Given as goal

abbrev pub invariant-loop-i : goal.invariant-loop-i
invariant-loop-i l = (n : Numbers) → AreFound None l.gap (map (entry n) l.table.entries) l.i l.pieces.items
