use Rattle.std.proofs.Common.{◌≡◌, ◌++◌, ◌-◌}
use Rattle.std.specs.List.{range_with_len}
use Rattle.merge_whole.proofs.built.starts.range.Given as goal

abbrev pub invariant-loop-n : goal.invariant-loop-n
invariant-loop-n l = l.list.items ++ range_with_len l.n (l.end - l.n) ≡ range_with_len l.first (l.end - l.first)
