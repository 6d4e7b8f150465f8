-- Places in order, and the last of them.
use Rattle.std.proofs.Common.{◌≡◌, ℕ, ◌+◌, ◌<◌, ◌≤◌, Bool, true, false, List, [], ◌∷◌, ◌++◌, refl, ap, inl, inr}
use Rattle.std.specs.Prelude.{◌⊎◌, nat_le}
use Rattle.std.proofs.lemmas.Bool.{leb-true, leb-false}
use Rattle.snap_parts.specs.declared.pieces.Piece.{Piece}
use Rattle.snap_parts.specs.Found.{next_place, AreInOrder, after_last, noted}

pub noted_last : (gap i : ℕ) (ps : List Piece) (p : Piece) → noted gap i (ps ++ p ∷ []) ≡ ps ++ after_last gap i p
noted_last gap i [] p = refl
noted_last gap i (q ∷ []) p = refl
noted_last gap i (q ∷ r ∷ ps) p = ap (λ l. q ∷ l) (noted_last gap i (r ∷ ps) p)

pub ordered_with : (gap from : ℕ) (ps : List Piece) (p : Piece) → AreInOrder gap from ps → next_place gap from ps ≤ p.at
    → AreInOrder gap from (ps ++ p ∷ [])
ordered_with gap from [] p are le = (le, tt)
ordered_with gap from (q ∷ ps) p are le = (are.0, ordered_with gap (q.at + q.len + gap + 1) ps p are.1 le)

pub ordered_but : (gap from : ℕ) (ps : List Piece) (p : Piece) → AreInOrder gap from (ps ++ p ∷ []) → AreInOrder gap from ps
ordered_but gap from [] p are = tt
ordered_but gap from (q ∷ ps) p are = (are.0, ordered_but gap (q.at + q.len + gap + 1) ps p are.1)

pub ordered_last : (gap from : ℕ) (ps : List Piece) (p : Piece) → AreInOrder gap from (ps ++ p ∷ []) → next_place gap from ps ≤ p.at
ordered_last gap from [] p are = are.0
ordered_last gap from (q ∷ ps) p are = ordered_last gap (q.at + q.len + gap + 1) ps p are.1

pub next_behind : (gap from : ℕ) (ps : List Piece) (p : Piece) → next_place gap from (ps ++ p ∷ []) ≡ p.at + p.len + gap + 1
next_behind gap from [] p = refl
next_behind gap from (q ∷ ps) p = next_behind gap (q.at + q.len + gap + 1) ps p

-- a list is empty, or has a last item
pub with_last : {A : Type 0} (xs : List A) → (xs ≡ []) ⊎ ((ys : List A) × (y : A) × (xs ≡ ys ++ y ∷ []))
with_last [] = inl refl
with_last {A} (x ∷ xs) = go (with_last xs)
  where
    go : (xs ≡ []) ⊎ ((ys : List A) × (y : A) × (xs ≡ ys ++ y ∷ [])) → (x ∷ xs ≡ []) ⊎ ((ys : List A) × (y : A) × (x ∷ xs ≡ ys ++ y ∷ []))
    go (inl none) = inr ([], x, ap (λ l. x ∷ l) none)
    go (inr some) = inr (x ∷ some.0, some.1, ap (λ l. x ∷ l) some.2)

-- one of two numbers is below the other, or not
pub below_or : (a b : ℕ) → (a < b) ⊎ (b ≤ a)
below_or a b = go (nat_le b a) refl
  where
    go : (t : Bool) → nat_le b a ≡ t → (a < b) ⊎ (b ≤ a)
    go true e = inr (leb-true b a e)
    go false e = inl (leb-false b a e)
