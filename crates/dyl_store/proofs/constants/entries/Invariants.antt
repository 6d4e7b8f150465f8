use Rattle.std.proofs.Common.{◌≡◌, ◌++◌, drop, map}
use Rattle.dyl_store.specs.Opening.{entry_with}
use Rattle.dyl_store.proofs.constants.entries.Given as goal

abbrev pub invariant-loop-e : goal.invariant-loop-e
invariant-loop-e l = l.all.items ++ map (entry_with l.names) (drop l.e-index l.items) ≡ map (entry_with l.names) l.items
