use Rattle.std.proofs.Common.{◌-◌, ◌≤◌, take, drop}
use Rattle.dyl_world.proofs.Pieces.{IsPlain}
use Rattle.dyl_world.proofs.strings.size_at.Given as goal

abbrev pub invariant-loop-place : goal.invariant-loop-place
invariant-loop-place l = (l.at ≤ l.place) × IsPlain (take (l.place - l.at) (drop l.at l.memory.bytes))

abbrev pub decreases-loop-place : goal.decreases-loop-place
decreases-loop-place l = l.end - l.place
