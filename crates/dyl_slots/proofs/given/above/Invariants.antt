use Rattle.std.proofs.Common.{ℕ, ◌<◌, ◌≤◌, ◌^◌}
use Rattle.std.specs.Prelude.{slice_index_or}
use Rattle.dyl_slots.proofs.given.above.Given as goal

abbrev pub invariant-loop-n : goal.invariant-loop-n
invariant-loop-n l = record {
  small : l.count ≤ 2 ^ 32;
  above : (k d : ℕ) → k < l.n-index → slice_index_or l.numbers k d < l.count;
}
