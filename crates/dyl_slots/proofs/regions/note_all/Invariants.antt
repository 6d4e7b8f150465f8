use Rattle.std.proofs.Common.{◌≡◌, ℕ, ◌+◌, ◌<◌, length, drop, None}
use Rattle.std.specs.Prelude.{slice_index_or}
use Rattle.spec_loading.specs.spec_linking.Definitions.{or_other}
use Rattle.dyl_slots.specs.Regions.{first_left}
use Rattle.dyl_slots.proofs.regions.note_all.Given as goal

abbrev pub invariant-loop-n : goal.invariant-loop-n
invariant-loop-n l = (f : ℕ) → f < length l.initial.slots
    → or_other (slice_index_or l.slots f None) (first_left l.m f (l.base + l.n) (drop l.n l.region)) ≡ or_other (slice_index_or l.initial.slots f None) (first_left l.m f l.base l.region)
