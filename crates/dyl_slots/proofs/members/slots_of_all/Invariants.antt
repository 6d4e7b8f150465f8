use Rattle.std.proofs.Common.{◌≡◌, ◌+◌, length, drop}
use Rattle.spec_loading.specs.spec_linking.LinkedSets.{LinkedSet}
use Rattle.spec_loading.specs.spec_linking.Slots.{linked_plan}
use Rattle.spec_loading.specs.LoadedSet.{first_slot}
use Rattle.dyl_slots.specs.Given.{IsSegmentedOf, IsSlotsOf, AllAt, fresh_sum}
use Rattle.dyl_slots.proofs.members.slots_of_all.Given as goal

abbrev pub invariant-loop-s : goal.invariant-loop-s
invariant-loop-s l = record {
  count : length l.slots.items ≡ l.s-index;
  room : l.next + fresh_sum (drop l.s-index l.all) ≡ l.table_end + fresh_sum l.all;
  exact : (L : LinkedSet) → AllAt (IsSegmentedOf L) l.all → l.table_end ≡ (linked_plan L).table_end → (l.next ≡ first_slot L l.s-index) × AllAt (IsSlotsOf L) l.slots.items;
}
