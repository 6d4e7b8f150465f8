use Rattle.std.proofs.Common.{◌≡◌, length, map}
use Rattle.std.specs.List.{range_with_len}
use Rattle.dyl_scope.specs.Orders.{needed_in, post_order_by}
use Rattle.dyl_scope.proofs.maker.orders_of.Given as goal

abbrev pub invariant-loop-m : goal.invariant-loop-m
invariant-loop-m l = l.orders.items ≡ map (post_order_by (needed_in l.members) (length l.members)) (range_with_len 0 l.m)
