use Rattle.std.proofs.Common.{◌≡◌}
use Rattle.dyl_store.specs.Opening.{global_place, first_of}
use Rattle.dyl_store.proofs.opened_members.first_globals.Given as goal

abbrev pub invariant-loop-g : goal.invariant-loop-g
invariant-loop-g l = l.all.items ≡ first_of (global_place l.addresses l.m) l.g
