use Rattle.std.proofs.Common.{◌≡◌, take}
use Rattle.spec_linking.specs.Orders.{with_numbers}
use Rattle.dyl_search.proofs.startup.add_new.Given as goal

abbrev pub invariant-loop-n : goal.invariant-loop-n
invariant-loop-n l = l.known.items ≡ with_numbers l.fn.known.items (take l.n-index l.numbers)
