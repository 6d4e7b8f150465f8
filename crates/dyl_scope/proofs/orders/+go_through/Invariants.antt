use Rattle.std.proofs.Common.{◌≡◌, ◌-◌, drop}
use Rattle.spec_linking.specs.Orders.{walk_each}
use Rattle.dyl_scope.specs.Orders.{needed_in, walk_by, walk_value}
use Rattle.dyl_scope.proofs.orders.+go_through.Given as goal

abbrev pub decreases-go_through : goal.decreases-go_through
decreases-go_through l = l.depth

abbrev pub invariant-loop-k : goal.invariant-loop-k
invariant-loop-k l =
    walk_each (walk_by (needed_in l.members) (l.depth - 1)) (drop l.k-index l.k-items) (walk_value l.w)
    ≡ walk_each (walk_by (needed_in l.members) (l.depth - 1)) l.k-items (walk_value l.initial.w)
