use Rattle.std.proofs.Common.{◌≡◌, length, drop}
use Rattle.spec_traces.specs.spec_hosts.spec_runtime.Hosts.{numbers_fit}
use Rattle.replay_check.proofs.answers.numbers_fit.Given as goal

abbrev pub invariant-loop-k : goal.invariant-loop-k
invariant-loop-k l = record {
  same : length l.types ≡ length l.numbers;
  rest : numbers_fit (drop l.k l.types) (drop l.k l.numbers) ≡ numbers_fit l.types l.numbers;
}
