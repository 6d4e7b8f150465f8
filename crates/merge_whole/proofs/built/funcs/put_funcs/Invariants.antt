use Rattle.std.proofs.Common.{◌≡◌, ◌++◌, drop, map}
use Rattle.merge_index.specs.Kept.{numbers_in}
use Rattle.merge_whole.proofs.built.funcs.put_funcs.Given as goal

abbrev pub invariant-loop-t : goal.invariant-loop-t
invariant-loop-t l =
    l.to.items ++ map ((numbers_in l.n).ty l.m) (drop l.t-index l.funcs)
    ≡ l.fn.to.items ++ map ((numbers_in l.n).ty l.m) l.funcs
