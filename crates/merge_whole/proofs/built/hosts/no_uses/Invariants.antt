use Rattle.std.proofs.Common.{◌≡◌, ℕ, length, None, get_or}
use Rattle.merge_whole.proofs.built.hosts.no_uses.Given as goal

abbrev pub invariant-loop-e : goal.invariant-loop-e
invariant-loop-e l = record {
  count : length l.uses.items ≡ l.e;
  none : (k : ℕ) → get_or l.uses.items k None ≡ None;
}
