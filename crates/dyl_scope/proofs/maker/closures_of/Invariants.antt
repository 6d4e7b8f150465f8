use Rattle.std.proofs.Common.{◌≡◌, length, map}
use Rattle.std.specs.List.{range_with_len}
use Rattle.dyl_scope.specs.Orders.{needed_in, closure_by}
use Rattle.dyl_scope.proofs.maker.closures_of.Given as goal

abbrev pub invariant-loop-m : goal.invariant-loop-m
invariant-loop-m l = l.closures.items ≡ map (closure_by (needed_in l.members) (length l.members)) (range_with_len 0 l.m)
