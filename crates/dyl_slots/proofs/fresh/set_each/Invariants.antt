use Rattle.std.proofs.Common.{◌≡◌, ℕ, ◌<◌, length, drop, None}
use Rattle.std.specs.Prelude.{slice_index_or, if◌then◌else◌}
use Rattle.spec_loading.specs.spec_linking.Orders.{is_among}
use Rattle.dyl_slots.specs.Fresh.{either_slot}
use Rattle.dyl_slots.proofs.fresh.set_each.Given as goal

abbrev pub invariant-loop-f : goal.invariant-loop-f
invariant-loop-f l = (k : ℕ) → k < length l.initial.slots
    → (if is_among k (drop l.f-index l.defined) then either_slot l.segments l.fresh k else slice_index_or l.slots k None)
    ≡ (if is_among k l.defined then either_slot l.segments l.fresh k else slice_index_or l.initial.slots k None)
