-- Marks of numbers that are known.
-- Serves the contracts of this crate.
use Rattle.std.specs.Prelude.{◌≡◌, ℕ, ◌<◌, List, length, Bool, false, slice_index_or}
use Rattle.spec_linking.specs.Orders.{is_among}

-- whether the numbers with a mark are among these
abbrev pub AreMarked : List Bool → List ℕ → Type 0
AreMarked marks numbers = (k : ℕ) → k < length marks → slice_index_or marks k false ≡ is_among k numbers
