use Rattle.std.proofs.Common.{map}
use Rattle.dyl_store.specs.Opening.{AreElems}
use Rattle.dyl_store.proofs.contents.elems_of.Given as goal

abbrev pub invariant-loop-m : goal.invariant-loop-m
invariant-loop-m l = AreElems l.linked l.m (map (λ v. v.items) l.all.items)
