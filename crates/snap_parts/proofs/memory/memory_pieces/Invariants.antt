use Rattle.std.proofs.Common.{◌≤◌, ◌-◌}
use Rattle.snap_parts.specs.Found.{AreFound}
use Rattle.snap_parts.proofs.memory.memory_pieces.Given as goal

abbrev pub invariant-loop-at : goal.invariant-loop-at
invariant-loop-at l = record {
  within : l.at ≤ l.end;
  found : AreFound 0 l.gap l.memory.bytes l.at l.pieces.items;
}

abbrev pub decreases-loop-at : goal.decreases-loop-at
decreases-loop-at l = l.end - l.at
