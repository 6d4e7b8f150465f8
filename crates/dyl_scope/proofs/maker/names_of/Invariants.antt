use Rattle.std.proofs.Common.{◌≡◌, ◌++◌, drop, map}
use Rattle.dyl_scope.specs.Kept.{names_by}
use Rattle.dyl_scope.proofs.maker.names_of.Given as goal

abbrev pub invariant-loop-member : goal.invariant-loop-member
invariant-loop-member l = l.names.items ++ map names_by (drop l.member-index l.members) ≡ map names_by l.members
