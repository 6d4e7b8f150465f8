use Rattle.std.proofs.Common.{◌≡◌, ◌++◌, drop}
use Rattle.merge_dl.specs.Words.{closes_code}
use Rattle.merge_dl.specs.Listed.{starts_in}
use Rattle.merge_dl.proofs.dlclose.put_closes.Given as goal

abbrev pub invariant-loop-m : goal.invariant-loop-m
invariant-loop-m l =
    l.to.items ++ closes_code (starts_in l.n) l.m (drop l.m l.linked.set.members)
    ≡ l.fn.to.items ++ closes_code (starts_in l.n) 1 (drop 1 l.linked.set.members)
