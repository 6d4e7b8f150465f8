use Rattle.std.proofs.Common.{◌≡◌, drop}
use Rattle.spec_linking.specs.Orders.{with_numbers}
use Rattle.dyl_names.proofs.numbers.DistinctNumbers.add_all.Given as goal

abbrev pub invariant-loop-n : goal.invariant-loop-n
invariant-loop-n l = with_numbers l.self (drop l.n-index l.numbers) ≡ with_numbers l.initial.self l.numbers
