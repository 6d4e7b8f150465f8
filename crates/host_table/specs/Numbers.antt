-- Numbers of host functions by their modules and names.
-- Serves the contracts of this crate, which follow Names of `spec_runtime`.
use Rattle.std.specs.Prelude.{ℕ, List, [], ◌∷◌, ◌++◌, Option, Some, None, if◌then◌else◌}
use Rattle.std.specs.Map.{lookup}
use Rattle.std.specs.Str.{bytes_eq}

-- for each module its names with their numbers
abbrev pub Numbers : Type 0
Numbers = List (List ℕ × List (List ℕ × ℕ))

abbrev pub number_in : List ℕ → Option (List (List ℕ × ℕ)) → Option ℕ
number_in name None = None
number_in name (Some names) = lookup (bytes_eq name) names

-- the number of a module and a name
abbrev pub number_of : Numbers → List ℕ → List ℕ → Option ℕ
number_of numbers from name = number_in name (lookup (bytes_eq from) numbers)

-- one name more, with its number
abbrev pub with_number : List ℕ → List ℕ → ℕ → Numbers → Numbers
with_number from name n [] = (from, (name, n) ∷ []) ∷ []
with_number from name n (m ∷ ms) = if bytes_eq from m.0 then (m.0, m.1 ++ (name, n) ∷ []) ∷ ms else m ∷ with_number from name n ms
