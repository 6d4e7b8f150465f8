use Rattle.std.proofs.Common.{◌≡◌, ℕ, List, length, map, None, sym, subst, arith}
use Rattle.merge_match.specs.Renumbering.{Numbers, entry}
use Rattle.snap_parts.specs.declared.pieces.Piece.{Piece}
use Rattle.snap_parts.specs.Found.{AreFound}
use Rattle.snap_parts.proofs.Founds.{found_none}
use Rattle.snap_parts.proofs.tables.table_pieces.Goals as goal

pub loop-i-init : goal.loop-i-init
loop-i-init c = λ (n : Numbers).
    subst (λ (l : List Piece). AreFound None c.args.gap (map (entry n) c.args.table.now.entries) 0 l) (sym c.new-pieces.ensures.items)
    (found_none None c.args.gap (map (entry n) c.args.table.now.entries))

pub returns : goal.returns
returns c = λ (n : Numbers).
    let all : c.loop-i.i ≡ length c.args.table.now.entries = omega arith in
    subst (λ (k : ℕ). AreFound None c.args.gap (map (entry n) c.args.table.now.entries) k c.loop-i.pieces.items) all (c.loop-i.invariant n)
