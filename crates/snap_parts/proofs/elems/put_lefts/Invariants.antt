use Rattle.std.proofs.Common.{◌≡◌, ◌++◌, map, take}
use Rattle.snap_parts.specs.Zips.{is_left}
use Rattle.snap_parts.proofs.elems.put_lefts.Given as goal

abbrev pub invariant-loop-e : goal.invariant-loop-e
invariant-loop-e l = l.to.items ≡ l.fn.to.items ++ map is_left (map (λ v. v.items) (take l.e-index l.elems))
