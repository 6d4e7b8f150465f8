use Rattle.std.proofs.Common.{map}
use Rattle.dyl_store.specs.Opening.{AreDatas}
use Rattle.dyl_store.proofs.contents.datas_of.Given as goal

abbrev pub invariant-loop-m : goal.invariant-loop-m
invariant-loop-m l = AreDatas l.linked l.m (map (λ d. d.now) l.all.items)
