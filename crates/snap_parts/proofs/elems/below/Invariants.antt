use Rattle.std.proofs.Common.{◌≡◌, ◌++◌}
use Rattle.snap_module.specs.Held.{below}
use Rattle.snap_parts.proofs.elems.below.Given as goal

abbrev pub invariant-loop-left : goal.invariant-loop-left
invariant-loop-left l = l.list.items ++ below l.left ≡ below l.n

abbrev pub decreases-loop-left : goal.decreases-loop-left
decreases-loop-left l = l.left
