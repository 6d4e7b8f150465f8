use Rattle.std.proofs.Common.{◌≡◌, ◌++◌, drop, map}
use Rattle.merge_start.specs.Listed.{item}
use Rattle.merge_start.proofs.passive.named.Given as goal

abbrev pub invariant-loop-f : goal.invariant-loop-f
invariant-loop-f l = l.list.items ++ map (item l.functions l.s) (drop l.f-index l.fs) ≡ map (item l.functions l.s) l.fs
