use Rattle.std.proofs.Common.{◌≡◌, drop}
use Rattle.dyl_names.specs.First.{by_first}
use Rattle.dyl_names.proofs.first.by_first.Given as goal

abbrev pub invariant-loop-m : goal.invariant-loop-m
invariant-loop-m l = by_first l.names (drop l.m-index l.members) l.name ≡ by_first l.names l.members l.name
