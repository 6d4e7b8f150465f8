use Rattle.std.proofs.Common.{◌≡◌}
use Rattle.dyl_store.specs.Opening.{table_place, first_of}
use Rattle.dyl_store.proofs.opened_members.first_tables.Given as goal

abbrev pub invariant-loop-t : goal.invariant-loop-t
invariant-loop-t l = l.all.items ≡ first_of (table_place l.addresses l.m) l.t
