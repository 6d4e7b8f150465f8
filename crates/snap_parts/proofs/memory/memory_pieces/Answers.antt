use Rattle.std.proofs.Common.{◌≡◌, ℕ, List, length, sym, subst, arith}
use Rattle.snap_parts.specs.declared.pieces.Piece.{Piece}
use Rattle.snap_parts.specs.Found.{AreFound}
use Rattle.snap_parts.proofs.Founds.{found_none}
use Rattle.snap_parts.proofs.memory.memory_pieces.Goals as goal

pub loop-at-init : goal.loop-at-init
loop-at-init c = record {
  within = omega arith;
  found = subst (λ (l : List Piece). AreFound 0 c.args.gap c.args.memory.now.bytes 0 l) (sym c.new-pieces.ensures.items)
      (found_none 0 c.args.gap c.args.memory.now.bytes);
}

pub returns-clause-found : goal.returns-clause-found
returns-clause-found c =
    let within = c.loop-at.invariant.within in
    let all : c.loop-at.at ≡ length c.args.memory.now.bytes = omega arith in
    subst (λ (k : ℕ). AreFound 0 c.args.gap c.args.memory.now.bytes k c.loop-at.pieces.items) all c.loop-at.invariant.found
