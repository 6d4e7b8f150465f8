use Rattle.std.proofs.Common.{◌≡◌, ◌++◌, drop}
use Rattle.std.specs.Prelude.{is_none}
use Rattle.std.specs.List.{filter}
use Rattle.dyl_slots.specs.Fresh.{slot_at}
use Rattle.dyl_slots.proofs.fresh.without_slot.Given as goal

abbrev pub invariant-loop-f : goal.invariant-loop-f
invariant-loop-f l = l.fresh.items ++ filter (λ f. is_none (slot_at l.slots f)) (drop l.f-index l.functions) ≡ filter (λ f. is_none (slot_at l.slots f)) l.functions
