use Rattle.std.proofs.Common.{◌≡◌, ◌++◌, ◌-◌}
use Rattle.std.specs.List.{range_with_len}
use Rattle.dyl_addresses.proofs.lists.put_range.Given as goal

abbrev pub invariant-loop-n : goal.invariant-loop-n
invariant-loop-n l = l.to.items ≡ l.fn.to.items ++ range_with_len l.start (l.n - l.start)
