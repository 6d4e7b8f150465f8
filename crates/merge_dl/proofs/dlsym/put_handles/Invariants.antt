use Rattle.std.proofs.Common.{◌≡◌, ◌++◌, drop}
use Rattle.merge_dl.specs.Words.{handles_code}
use Rattle.merge_dl.specs.Listed.{starts_in, finders_in}
use Rattle.merge_dl.proofs.dlsym.put_handles.Given as goal

abbrev pub invariant-loop-m : goal.invariant-loop-m
invariant-loop-m l =
    l.to.items ++ handles_code l.linked (starts_in l.n) (finders_in l.n) l.m (drop l.m l.linked.set.members)
    ≡ l.fn.to.items ++ handles_code l.linked (starts_in l.n) (finders_in l.n) 1 (drop 1 l.linked.set.members)
