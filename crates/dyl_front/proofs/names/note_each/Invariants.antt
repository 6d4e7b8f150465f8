use Rattle.std.proofs.Common.{◌≡◌, ℕ, ◌<◌, length, drop, None}
use Rattle.std.specs.Prelude.{slice_index_or}
use Rattle.std.specs.List.{position_from}
use Rattle.spec_linking.specs.Definitions.{or_other}
use Rattle.dyl_front.specs.Listing.{is_name_of}
use Rattle.dyl_front.proofs.names.note_each.Given as goal

abbrev pub invariant-loop-k : goal.invariant-loop-k
invariant-loop-k l = (f : ℕ) → f < length l.initial.firsts
    → or_other (slice_index_or l.firsts f None) (position_from (is_name_of f) l.k (drop l.k l.exports)) ≡ or_other (slice_index_or l.initial.firsts f None) (position_from (is_name_of f) 0 l.exports)
