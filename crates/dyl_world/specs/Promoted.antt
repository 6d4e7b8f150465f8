-- The promoted members of a set, as contracts see them.
-- Serves the contracts of this crate, which follow LoaderAnswers of `spec_loading`.
use Rattle.std.specs.Prelude.{ℕ, ◌<◌, ◌≤◌, List, length, take, nat_eq}
use Rattle.std.specs.List.{All, IsDistinct}

-- The promoted members, in the order in which they were promoted, and how many there may be.
pub record PromotedMembers : Type 0 where
  pub list : List ℕ
  pub room : ℕ

-- The first so many of some numbers are distinct members of a set of as many members as there are numbers.
pub record ArePromoted (members : List ℕ) (count : ℕ) : Type 0 where
  pub within : count ≤ length members
  pub inside : All (λ k. k < length members) (take count members)
  pub apart : IsDistinct nat_eq (take count members)
