use Rattle.std.proofs.Common.{◌≡◌, ◌++◌, map, take}
use Rattle.merge_match.specs.Renumbering.{entry}
use Rattle.merge_index.specs.Kept.{numbers_in}
use Rattle.snap_module.specs.Held.{table_elem}
use Rattle.snap_parts.specs.Found.{cut}
use Rattle.snap_parts.proofs.tables.put_pieces.Given as goal

abbrev pub invariant-loop-piece : goal.invariant-loop-piece
invariant-loop-piece l =
    l.to.items ≡ l.fn.to.items
    ++ map (table_elem l.t) (map (cut (map (entry (numbers_in l.numbers)) l.table.entries)) (take l.piece-index l.pieces))
