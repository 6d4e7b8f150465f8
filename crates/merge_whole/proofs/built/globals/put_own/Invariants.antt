use Rattle.std.proofs.Common.{◌≡◌, ◌++◌, drop, map}
use Rattle.merge_index.specs.Kept.{numbers_in}
use Rattle.merge_whole.specs.GlobalDefs.{own_by}
use Rattle.merge_whole.proofs.built.globals.put_own.Given as goal

abbrev pub invariant-loop-g : goal.invariant-loop-g
invariant-loop-g l =
    l.to.items ++ map (own_by l.linked (numbers_in l.n) l.bases l.m) (drop l.g-index l.globals)
    ≡ l.fn.to.items ++ map (own_by l.linked (numbers_in l.n) l.bases l.m) l.globals
