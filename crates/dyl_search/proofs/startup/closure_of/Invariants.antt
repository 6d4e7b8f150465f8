use Rattle.std.proofs.Common.{◌≡◌, ◌-◌, ◌∷◌, [], map, length}
use Rattle.spec_linking.specs.Orders.{breadth_from}
use Rattle.dyl_search.specs.Gathers.{member_of}
use Rattle.dyl_search.proofs.startup.closure_of.Given as goal

abbrev pub invariant-loop-k : goal.invariant-loop-k
invariant-loop-k l = breadth_from (map member_of l.members) (length l.members - l.k) l.k l.known.items ≡ breadth_from (map member_of l.members) (length l.members) 0 (l.m ∷ [])
