-- The places of what is written of a list, as they are found from its beginning on.
-- Serves the contracts of this crate, which follow Stretches of `spec_snapshots`.
use Rattle.std.specs.Prelude.{◌≡◌, ◌≢◌, ℕ, ◌+◌, ◌-◌, ◌<◌, ◌≤◌, List, [], ◌∷◌, ◌++◌, length, map, take, drop, replicate, slice_index_or, nat_le, Bool, if◌then◌else◌}
use Rattle.std.specs.List.{All}
use Rattle.snap_module.specs.Held.{Stretch, all_put}
use Rattle.snap_parts.specs.declared.pieces.Piece.{Piece}

-- the stretch of a list at a place
abbrev pub cut : {A : Type 0} → List A → Piece → Stretch A
cut xs p = record { at = p.at; items = take p.len (drop p.at xs) }

-- it isn't empty, and ends before this place
abbrev pub EndsBy : ℕ → Piece → Type 0
EndsBy end p = (0 < p.len) × (p.at + p.len ≤ end)

-- its first and its last item aren't blank, and it has no run of more than `gap` blank ones
pub record IsTight {A : Type 0} (blank : A) (gap : ℕ) (xs : List A) (p : Piece) : Type 0 where
  pub first : slice_index_or xs p.at blank ≢ blank
  pub last : slice_index_or xs (p.at + p.len - 1) blank ≢ blank
  pub runs : (k : ℕ) → p.at ≤ k → k + gap < p.at + p.len → ((j : ℕ) → j ≤ gap → slice_index_or xs (k + j) blank ≡ blank) → ⊥

-- where the next one may begin
abbrev pub next_place : ℕ → ℕ → List Piece → ℕ
next_place gap from [] = from
next_place gap from (p ∷ ps) = next_place gap (p.at + p.len + gap + 1) ps

abbrev pub AreInOrder : ℕ → ℕ → List Piece → Type 0
AreInOrder gap from [] = Unit {0}
AreInOrder gap from (p ∷ ps) = (from ≤ p.at) × AreInOrder gap (p.at + p.len + gap + 1) ps

-- all that isn't blank of so many items lies in these places
pub record AreFound {A : Type 0} (blank : A) (gap : ℕ) (xs : List A) (i : ℕ) (ps : List Piece) : Type 0 where
  pub within : All (EndsBy i) ps
  pub give : all_put (replicate (length xs) blank) (map (cut xs) ps) ≡ take i xs ++ replicate (length xs - i) blank
  pub tight : All (IsTight blank gap xs) ps
  pub ordered : AreInOrder gap 0 ps

-- ---- the next item that isn't blank

abbrev pub one_at : ℕ → Piece
one_at i = record { at = i; len = 1 }

-- it belongs to the last place where no more than `gap` items are between
abbrev pub after_by : Bool → ℕ → Piece → List Piece
after_by near i p = if near then record { at = p.at; len = i + 1 - p.at } ∷ [] else p ∷ one_at i ∷ []

abbrev pub after_last : ℕ → ℕ → Piece → List Piece
after_last gap i p = after_by (nat_le i (p.at + p.len + gap)) i p

abbrev pub noted : ℕ → ℕ → List Piece → List Piece
noted gap i [] = one_at i ∷ []
noted gap i (p ∷ []) = after_last gap i p
noted gap i (p ∷ q ∷ ps) = p ∷ noted gap i (q ∷ ps)
