use Rattle.std.proofs.Common.{◌≡◌, map, take, length}
use Rattle.dyl_search.specs.Gathers.{member_of}
use Rattle.dyl_imports.specs.Weak.{AreWeakOf}
use Rattle.dyl_imports.proofs.weak.weak_of.Given as goal

abbrev pub invariant-loop-member : goal.invariant-loop-member
invariant-loop-member l = record {
  count : length l.weak.items ≡ l.member-index;
  so_far : AreWeakOf (map member_of (take l.member-index l.members)) l.weak.items;
}
