use Rattle.std.proofs.Common.{◌≡◌, ℕ, false, get_or}
use Rattle.dyl_names.proofs.numbers.no_marks.Given as goal

abbrev pub invariant-loop-n : goal.invariant-loop-n
invariant-loop-n l = (k : ℕ) → get_or l.marks.items k false ≡ false
