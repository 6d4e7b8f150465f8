use Rattle.std.proofs.Common.{◌≡◌, ◌++◌, map, drop, slice_get}
use Rattle.spec_loading.specs.spec_runtime.Constants.{constant_entry, numbered_globals}
use Rattle.dyl_slots.proofs.placings.entries.Given as goal

abbrev pub invariant-loop-e : goal.invariant-loop-e
invariant-loop-e l = l.all.items ++ map (constant_entry (slice_get l.names.functions.now) (numbered_globals l.names.globals.now)) (drop l.e-index l.items) ≡ map (constant_entry (slice_get l.names.functions.now) (numbered_globals l.names.globals.now)) l.items
