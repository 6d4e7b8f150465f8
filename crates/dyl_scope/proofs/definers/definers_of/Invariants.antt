use Rattle.std.proofs.Common.{◌≡◌, [], drop}
use Rattle.dyl_scope.specs.Definers.{with_told}
use Rattle.dyl_scope.proofs.definers.definers_of.Given as goal

abbrev pub invariant-loop-member : goal.invariant-loop-member
invariant-loop-member l = record {
  number : l.m ≡ l.member-index;
  noted : with_told l.m (drop l.member-index l.members) l.definers ≡ with_told 0 l.members [];
}
