use Rattle.std.proofs.Common.{◌≡◌, length}
use Rattle.std.specs.List.{All}
use Rattle.spec_loading.specs.spec_linking.LinkedSets.{LinkedSet}
use Rattle.dyl_slots.specs.Given.{IsGiven, IsSegmentedOf, AllAt, HasFew}
use Rattle.dyl_slots.proofs.members.segments_of_all.Given as goal

abbrev pub invariant-loop-m : goal.invariant-loop-m
invariant-loop-m l = record {
  count : length l.all.items ≡ l.m;
  exact : (L : LinkedSet) → IsGiven L l.members l.plan l.functions → AllAt (IsSegmentedOf L) l.all.items;
  few : All HasFew l.all.items;
}
