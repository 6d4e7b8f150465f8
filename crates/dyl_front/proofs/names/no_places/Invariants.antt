use Rattle.std.proofs.Common.{◌≡◌, ℕ, None}
use Rattle.std.specs.Prelude.{slice_index_or}
use Rattle.dyl_front.proofs.names.no_places.Given as goal

abbrev pub invariant-loop-n : goal.invariant-loop-n
invariant-loop-n l = (f : ℕ) → slice_index_or l.v.items f None ≡ None
