use Rattle.std.proofs.Common.{◌≡◌, ℕ, length, None, get_or}
use Rattle.dyl_slots.proofs.regions.nulls.Given as goal

abbrev pub invariant-loop-n : goal.invariant-loop-n
invariant-loop-n l = record {
  count : length l.v.items ≡ l.n;
  nulls : (k : ℕ) → get_or l.v.items k None ≡ None;
}
