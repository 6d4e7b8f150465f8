use Rattle.std.proofs.Common.{◌≡◌, ◌++◌, drop}
use Rattle.merge_dl.specs.Words.{tries_then}
use Rattle.merge_dl.specs.Listed.{finders_in}
use Rattle.merge_dl.proofs.dlsym.tries_then.Given as goal

abbrev pub invariant-loop-m : goal.invariant-loop-m
invariant-loop-m l =
    l.code.items ++ tries_then (finders_in l.n) l.last.items (drop l.m-index l.members) ≡ tries_then (finders_in l.n) l.last.items l.members
