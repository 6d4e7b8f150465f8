use Rattle.std.proofs.Common.{◌≡◌, ◌++◌, drop}
use Rattle.dyl_addresses.specs.Bases.{bases_from}
use Rattle.dyl_addresses.proofs.bases.bases_from.Given as goal

abbrev pub invariant-loop-i : goal.invariant-loop-i
invariant-loop-i l = l.bases.items ++ bases_from l.memory l.table (drop l.i-index l.imports) ≡ bases_from l.memory l.table l.imports
