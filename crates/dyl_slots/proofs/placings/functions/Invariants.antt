use Rattle.std.proofs.Common.{◌≡◌, ◌++◌, map, drop, slice_get}
use Rattle.dyl_slots.proofs.placings.functions.Given as goal

abbrev pub invariant-loop-f : goal.invariant-loop-f
invariant-loop-f l = l.all.items ++ map (slice_get l.names.functions.now) (drop l.f-index l.numbers) ≡ map (slice_get l.names.functions.now) l.numbers
