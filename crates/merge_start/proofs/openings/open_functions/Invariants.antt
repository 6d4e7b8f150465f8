use Rattle.std.proofs.Common.{◌≡◌, ◌++◌, drop}
use Rattle.spec_loading.specs.Members.{from_members}
use Rattle.merge_match.specs.Renumbering.{Numbers}
use Rattle.merge_start.specs.Words.{Starts}
use Rattle.merge_start.specs.Listed.{AreListed, open_parts}
use Rattle.merge_start.proofs.openings.open_functions.Given as goal

abbrev pub invariant-loop-m : goal.invariant-loop-m
invariant-loop-m l = (N : Numbers) (x : Starts) → AreListed l.linked l.n N x
    → l.parts.items ++ from_members (open_parts l.linked N x) l.m (drop l.m l.linked.set.members) ≡ from_members (open_parts l.linked N x) 0 l.linked.set.members
