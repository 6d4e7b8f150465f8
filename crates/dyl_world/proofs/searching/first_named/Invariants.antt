use Rattle.std.proofs.Common.{◌≡◌, drop}
use Rattle.std.specs.List.{position_from}
use Rattle.dyl_world.specs.Found.{is_named}
use Rattle.dyl_world.proofs.searching.first_named.Given as goal

abbrev pub invariant-loop-m : goal.invariant-loop-m
invariant-loop-m l = position_from (is_named l.name) l.m (drop l.m l.members) ≡ position_from (is_named l.name) 0 l.members
