-- The numbers that addresses get, and those of members, in lists.
-- This profile: docs/FORMATS.md, "What merge writes".
use Rattle.std.specs.Prelude.{ℕ, List, slice_get, Option, Some, None}
use Rattle.spec_binary.specs.Options.{◌>>=◌}

-- what a number out of range becomes: no module has so many of anything
abbrev pub nowhere : ℕ
nowhere = 4294967295

-- The addresses of the store are numbers of the module.
abbrev pub number_of : Option ℕ → ℕ
number_of None = nowhere
number_of (Some a) = a

-- item i of the list of member m
abbrev pub number_at : List (List ℕ) → ℕ → ℕ → ℕ
number_at lists m i = number_of (slice_get lists m >>= λ list. slice_get list i)
