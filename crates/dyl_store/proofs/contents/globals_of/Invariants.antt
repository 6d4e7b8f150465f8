use Rattle.dyl_store.specs.Opening.{AreGlobals}
use Rattle.dyl_store.proofs.contents.globals_of.Given as goal

abbrev pub invariant-loop-m : goal.invariant-loop-m
invariant-loop-m l = AreGlobals l.linked l.m l.all.items
