use Rattle.std.proofs.Common.{◌≡◌, ℕ, ◌<◌, length, drop, None}
use Rattle.std.specs.Prelude.{slice_index_or}
use Rattle.spec_loading.specs.spec_linking.Definitions.{or_other}
use Rattle.merge_index.specs.Kept.{numbers_in}
use Rattle.merge_whole.specs.Counts.{members_of}
use Rattle.merge_whole.specs.Hosts.{given_from}
use Rattle.merge_whole.proofs.built.hosts.note_members.Given as goal

abbrev pub invariant-loop-m : goal.invariant-loop-m
invariant-loop-m l = (e : ℕ) → e < length l.initial.uses
    → or_other (slice_index_or l.uses e None) (given_from l.linked (numbers_in l.n) l.m (members_of (drop l.m l.members)) e) ≡ or_other (slice_index_or l.initial.uses e None) (given_from l.linked (numbers_in l.n) 0 (members_of l.members) e)
