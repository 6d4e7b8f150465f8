use Rattle.std.proofs.Common.{◌-◌, ◌≡◌, ◌≤◌, length, take, drop}
use Rattle.dyl_world.proofs.strings.stand_at.Given as goal

abbrev pub invariant-loop-done : goal.invariant-loop-done
invariant-loop-done l = (l.done ≤ length l.bytes) × (take l.done l.bytes ≡ take l.done (drop l.at l.memory.bytes))

abbrev pub decreases-loop-done : goal.decreases-loop-done
decreases-loop-done l = length l.bytes - l.done
