use Rattle.std.proofs.Common.{◌≡◌, ◌++◌, ◌-◌, map}
use Rattle.std.specs.List.{range_with_len}
use Rattle.merge_index.specs.Kept.{numbers_in}
use Rattle.merge_whole.proofs.built.starts.put_functions.Given as goal

abbrev pub invariant-loop-f : goal.invariant-loop-f
invariant-loop-f l =
    l.to.items ++ map ((numbers_in l.n).named l.m) (range_with_len l.f (l.count - l.f))
    ≡ l.fn.to.items ++ map ((numbers_in l.n).named l.m) (range_with_len 0 l.count)
