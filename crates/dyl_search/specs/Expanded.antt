-- Directories to search.
-- Serves the contracts of this crate, which follow Paths of `spec_linking`.
use Rattle.std.specs.Prelude.{ℕ, List, Option, Some, None}
use Rattle.spec_linking.specs.Paths.{expanded}

-- a directory, in which a leading `$ORIGIN` stands for the origin of a path, if one is given
abbrev pub expanded_from : Option (List ℕ) → List ℕ → List ℕ
expanded_from None directory = directory
expanded_from (Some path) directory = expanded path directory
