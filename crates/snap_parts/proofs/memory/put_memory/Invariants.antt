use Rattle.std.proofs.Common.{◌≡◌, ◌++◌, map, take}
use Rattle.snap_module.specs.Held.{memory_data}
use Rattle.snap_parts.specs.Found.{cut}
use Rattle.snap_parts.proofs.memory.put_memory.Given as goal

abbrev pub invariant-loop-piece : goal.invariant-loop-piece
invariant-loop-piece l = l.to.items ≡ l.fn.to.items ++ map memory_data (map (cut l.memory.bytes) (take l.piece-index l.pieces))
