use Rattle.std.proofs.Common.{◌≡◌, ℕ, ◌<◌, length, drop, None}
use Rattle.std.specs.Prelude.{slice_index_or}
use Rattle.spec_loading.specs.spec_linking.Definitions.{or_other}
use Rattle.merge_index.specs.Kept.{numbers_in}
use Rattle.merge_whole.specs.Hosts.{given_at}
use Rattle.merge_whole.proofs.built.hosts.note_types.Given as goal

abbrev pub invariant-loop-f : goal.invariant-loop-f
invariant-loop-f l = (e : ℕ) → e < length l.initial.uses
    → or_other (slice_index_or l.uses e None) (given_at l.linked l.m ((numbers_in l.n).ty l.m) l.f (drop l.f l.types) e) ≡ or_other (slice_index_or l.initial.uses e None) (given_at l.linked l.m ((numbers_in l.n).ty l.m) 0 l.types e)
