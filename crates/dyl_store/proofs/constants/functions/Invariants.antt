use Rattle.std.proofs.Common.{◌≡◌, ◌++◌, drop, map}
use Rattle.dyl_store.specs.Opening.{functions_of}
use Rattle.dyl_store.proofs.constants.functions.Given as goal

abbrev pub invariant-loop-f : goal.invariant-loop-f
invariant-loop-f l = l.all.items ++ map (functions_of l.names) (drop l.f-index l.numbers) ≡ map (functions_of l.names) l.numbers
