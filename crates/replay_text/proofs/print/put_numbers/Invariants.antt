use Rattle.std.proofs.Common.{◌≡◌, ◌++◌, drop, map, decimal}
use Rattle.spec_traces.specs.Texts.{spaced}
use Rattle.replay_text.proofs.print.put_numbers.Given as goal

abbrev pub invariant-loop-n : goal.invariant-loop-n
invariant-loop-n l = l.to.items ++ spaced (map decimal (drop l.n-index l.numbers)) ≡ l.fn.to.items ++ spaced (map decimal l.numbers)
