use Rattle.std.proofs.Common.{◌≡◌, ◌++◌, drop}
use Rattle.snap_parts.specs.Zips.{zip_by, elem_by}
use Rattle.snap_parts.proofs.elems.elems_left.Given as goal

abbrev pub invariant-loop-k : goal.invariant-loop-k
invariant-loop-k l = l.list.items ++ zip_by elem_by (drop l.k l.elems) (drop l.k l.left) ≡ zip_by elem_by l.elems l.left
