use Rattle.std.proofs.Common.{◌≡◌, ◌++◌, ◌-◌, map, Some}
use Rattle.std.specs.List.{range_with_len}
use Rattle.dyl_addresses.proofs.globals.put_own.Given as goal

abbrev pub invariant-loop-a : goal.invariant-loop-a
invariant-loop-a l = l.to.items ≡ l.fn.to.items ++ map Some (range_with_len l.start (l.a - l.start))
