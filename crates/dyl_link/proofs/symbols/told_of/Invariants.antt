use Rattle.std.proofs.Common.{◌≡◌, map, take}
use Rattle.dyl_slots.specs.dyl_search.Gathers.{member_of}
use Rattle.dyl_slots.specs.dyl_scope.Scopes.{told_of}
use Rattle.dyl_link.proofs.symbols.told_of.Given as goal

abbrev pub invariant-loop-member : goal.invariant-loop-member
invariant-loop-member l = l.maker ≡ map (λ m. told_of (member_of m)) (take l.member-index l.members)
