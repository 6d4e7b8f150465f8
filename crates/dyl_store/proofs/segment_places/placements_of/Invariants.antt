use Rattle.std.proofs.Common.{◌≡◌, ℕ, length, Some}
use Rattle.std.specs.Prelude.{slice_get}
use Rattle.dyl_store.specs.declared.place_member.Placement.{Placement}
use Rattle.dyl_store.specs.Placements.{IsPlacement}
use Rattle.dyl_store.proofs.segment_places.placements_of.Given as goal

abbrev pub invariant-loop-m : goal.invariant-loop-m
invariant-loop-m l = record {
  as_many : length l.placements.items ≡ l.m;
  each : (i : ℕ) (p : Placement) → slice_get l.placements.items i ≡ Some p → IsPlacement l.linked i p;
}
