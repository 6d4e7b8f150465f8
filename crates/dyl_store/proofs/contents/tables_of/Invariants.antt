use Rattle.dyl_store.specs.Opening.{AreTables}
use Rattle.dyl_store.proofs.contents.tables_of.Given as goal

abbrev pub invariant-loop-m : goal.invariant-loop-m
invariant-loop-m l = AreTables l.linked l.m l.all.items
