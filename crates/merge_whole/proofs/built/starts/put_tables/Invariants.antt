use Rattle.std.proofs.Common.{◌≡◌, ◌++◌, ◌-◌, map}
use Rattle.std.specs.List.{range_with_len}
use Rattle.merge_index.specs.Kept.{numbers_in}
use Rattle.merge_whole.proofs.built.starts.put_tables.Given as goal

abbrev pub invariant-loop-t : goal.invariant-loop-t
invariant-loop-t l =
    l.to.items ++ map ((numbers_in l.n).table l.m) (range_with_len l.t (l.count - l.t))
    ≡ l.fn.to.items ++ map ((numbers_in l.n).table l.m) (range_with_len 0 l.count)
