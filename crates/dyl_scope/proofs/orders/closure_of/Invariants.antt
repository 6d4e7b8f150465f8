use Rattle.std.proofs.Common.{◌≡◌, ◌-◌, length}
use Rattle.dyl_scope.specs.Orders.{needed_in, reached, closure_by}
use Rattle.dyl_scope.proofs.orders.closure_of.Given as goal

abbrev pub invariant-loop-k : goal.invariant-loop-k
invariant-loop-k l = reached (needed_in l.members) (length l.members - l.k) l.k l.known ≡ closure_by (needed_in l.members) (length l.members) l.m
