-- Copies between the tables of a unit.
-- Serves the contracts of this crate, which follow Tables of `spec_runtime`.
use Rattle.std.specs.Prelude.{ℕ, List, Option, Some, slice_get, slice_set}
use Rattle.spec_safety.specs.spec_binary.Options.{◌>>=◌}
use Rattle.spec_safety.specs.spec_runtime.Tables.{TableInstance, entries_copied_from}

-- the tables after so many entries of one were copied into another, or within itself; none where they pass an end
abbrev pub copied_between : List TableInstance → ℕ → ℕ → ℕ → ℕ → ℕ → Option (List TableInstance)
copied_between tables to from at start n = do
  x ← slice_get tables to
  y ← slice_get tables from
  new ← entries_copied_from x at y start n
  Some (slice_set tables to new)
