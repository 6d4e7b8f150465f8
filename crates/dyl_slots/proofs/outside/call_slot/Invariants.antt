use Rattle.std.proofs.Common.{◌≡◌, ◌+◌, drop}
use Rattle.std.specs.List.{position_from}
use Rattle.spec_loading.specs.spec_linking.Slots.{same_call}
use Rattle.dyl_slots.proofs.outside.call_slot.Given as goal

abbrev pub invariant-loop-n : goal.invariant-loop-n
invariant-loop-n l = position_from (same_call l.call) (l.first + l.n) (drop l.n l.calls) ≡ position_from (same_call l.call) l.first l.calls
