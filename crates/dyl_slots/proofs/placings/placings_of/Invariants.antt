use Rattle.std.proofs.Common.{◌≡◌, ◌++◌, map, drop, slice_get}
use Rattle.spec_loading.specs.spec_runtime.Constants.{numbered_globals}
use Rattle.dyl_slots.specs.Placings.{placed_all}
use Rattle.dyl_slots.specs.Regions.{placing_value}
use Rattle.dyl_slots.proofs.placings.placings_of.Given as goal

abbrev pub invariant-loop-e : goal.invariant-loop-e
invariant-loop-e l = map placing_value l.placings.items ++ placed_all (slice_get l.names.functions.now) (numbered_globals l.names.globals.now) l.tables (drop l.e-index l.m.elems)
    ≡ placed_all (slice_get l.names.functions.now) (numbered_globals l.names.globals.now) l.tables l.m.elems
