use Rattle.std.proofs.Common.{◌≡◌, ◌++◌, drop, map}
use Rattle.dyl_store.specs.Opening.{elem_with}
use Rattle.dyl_store.proofs.constants.put_elems.Given as goal

abbrev pub invariant-loop-segment : goal.invariant-loop-segment
invariant-loop-segment l = map (λ v. v.items) l.to.items ++ map (elem_with l.names) (drop l.segment-index l.segments) ≡ map (λ v. v.items) l.fn.to.items ++ map (elem_with l.names) l.segments
