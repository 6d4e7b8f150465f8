use Rattle.std.proofs.Common.{◌≡◌, ◌++◌, drop, map}
use Rattle.dyl_store.specs.Placements.{own_entry}
use Rattle.dyl_store.proofs.segment_places.slots_of.Given as goal

abbrev pub invariant-loop-f : goal.invariant-loop-f
invariant-loop-f l = l.slots.items ++ map (own_entry l.m) (drop l.f-index l.fresh) ≡ map (own_entry l.m) l.fresh
