use Rattle.std.proofs.Common.{◌≡◌, ℕ, ◌+◌, ◌<◌, length, drop, None}
use Rattle.std.specs.Prelude.{slice_index_or, nat_eq}
use Rattle.std.specs.List.{position_from}
use Rattle.spec_loading.specs.spec_linking.Definitions.{or_other}
use Rattle.dyl_slots.proofs.fresh.note_each.Given as goal

abbrev pub invariant-loop-n : goal.invariant-loop-n
invariant-loop-n l = (f : ℕ) → f < length l.initial.slots
    → or_other (slice_index_or l.slots f None) (position_from (nat_eq f) (l.first + l.n) (drop l.n l.numbers)) ≡ or_other (slice_index_or l.initial.slots f None) (position_from (nat_eq f) l.first l.numbers)
