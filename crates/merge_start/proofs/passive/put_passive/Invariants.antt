use Rattle.std.proofs.Common.{◌≡◌, ◌++◌, drop, map}
use Rattle.merge_start.specs.Passive.{functions_at, passive_elem}
use Rattle.merge_start.proofs.passive.put_passive.Given as goal

abbrev pub invariant-loop-e : goal.invariant-loop-e
invariant-loop-e l = l.to.items ++ map (passive_elem (functions_at l.functions l.s) 0) (drop l.e-index l.elems) ≡ l.fn.to.items ++ map (passive_elem (functions_at l.functions l.s) 0) l.elems
