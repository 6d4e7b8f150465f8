use Rattle.std.proofs.Common.{◌≡◌, ◌+◌}
use Rattle.snap_parts.specs.Found.{AreFound}
use Rattle.snap_parts.proofs.memory.find_in_page.Given as goal

abbrev pub invariant-loop-byte : goal.invariant-loop-byte
invariant-loop-byte l = record {
  at : l.i ≡ l.at + l.byte-index;
  found : AreFound 0 l.gap l.memory.bytes l.i l.pieces.items;
}
