use Rattle.std.proofs.Common.{◌≡◌, ◌++◌, drop, map}
use Rattle.merge_index.specs.Kept.{numbers_in}
use Rattle.merge_whole.proofs.built.elems.function_numbers.Given as goal

abbrev pub invariant-loop-r : goal.invariant-loop-r
invariant-loop-r l = l.list.items ++ map (numbers_in l.n).function (drop l.r-index l.refs) ≡ map (numbers_in l.n).function l.refs
