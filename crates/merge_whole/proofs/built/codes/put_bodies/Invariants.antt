use Rattle.std.proofs.Common.{◌≡◌, ◌++◌, drop, map}
use Rattle.merge_index.specs.Kept.{numbers_in}
use Rattle.merge_match.specs.Joined.{renumbered_code}
use Rattle.merge_whole.proofs.built.codes.put_bodies.Given as goal

abbrev pub invariant-loop-b : goal.invariant-loop-b
invariant-loop-b l =
    l.to.items ++ map (renumbered_code (numbers_in l.n) l.m) (drop l.b l.codes)
    ≡ l.fn.to.items ++ map (renumbered_code (numbers_in l.n) l.m) l.codes
