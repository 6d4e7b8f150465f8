-- Lists of seats, and what was served to one program.
use Rattle.std.proofs.Common.{◌≡◌, ◌≢◌, ℕ, zero, suc, Bool, true, false, List, [], ◌∷◌, ◌++◌, nat_eq, ◌⊎◌, inl, inr, slice_get, slice_set, Option, Some, refl, sym, ap, ◌∙◌, append-nil, arith, if◌then◌else◌}
use Rattle.std.specs.Prelude.{unwrap_or}
use Rattle.std.proofs.lemmas.Bool.Decides.{nat_tests}
use Rattle.spec_boards.specs.Boards.{Served, only_of}

pub get_set : {A : Type 0} (xs : List A) (i : ℕ) (v old : A) → slice_get xs i ≡ Some old → slice_get (slice_set xs i v) i ≡ Some v
get_set [] i v old e = absurd cc
get_set (x ∷ xs) zero v old e = refl
get_set (x ∷ xs) (suc i) v old e = get_set xs i v old e

pub get_other : {A : Type 0} (xs : List A) (i j : ℕ) (v : A) → i ≢ j → slice_get (slice_set xs i v) j ≡ slice_get xs j
get_other [] i j v other = refl
get_other (x ∷ xs) zero zero v other = absurd (other refl)
get_other (x ∷ xs) zero (suc j) v other = refl
get_other (x ∷ xs) (suc i) zero v other = refl
get_other (x ∷ xs) (suc i) (suc j) v other = get_other xs i j v (λ e. other (ap suc e))

-- an element after one was set: that one, or another that was there
pub after_set : {A : Type 0} (xs : List A) (i : ℕ) (v old : A) (j : ℕ) (x : A) → slice_get xs i ≡ Some old → slice_get (slice_set xs i v) j ≡ Some x
    → (j ≡ i) × (v ≡ x) ⊎ (i ≢ j) × (slice_get xs j ≡ Some x)
after_set {A} xs i v old j x at e = go (nat_eq j i) refl
  where
    go : (c : Bool) → nat_eq j i ≡ c → (j ≡ i) × (v ≡ x) ⊎ (i ≢ j) × (slice_get xs j ≡ Some x)
    go true q =
        let same : j ≡ i = grind (arith, nat_tests) in
        let there : Some v ≡ Some x = sym (get_set xs i v old at) ∙ ap (slice_get (slice_set xs i v)) (sym same) ∙ e in
        inl (same, ap (λ (o : Option A). unwrap_or o x) there)
    go false q =
        let other : i ≢ j = λ z. not_same z q in
        inr (other, sym (get_other xs i j v other) ∙ e)
      where
        not_same : i ≡ j → nat_eq j i ≡ false → ⊥
        not_same z q = grind (arith, nat_tests)

-- ---- one more that was served

only_append : (i : ℕ) (xs : List Served) (x : Served) → only_of i (xs ++ x ∷ []) ≡ only_of i xs ++ (if nat_eq i x.program then x ∷ [] else [])
only_append i [] x = go (nat_eq i x.program) refl
  where
    go : (b : Bool) → nat_eq i x.program ≡ b → only_of i (x ∷ []) ≡ (if nat_eq i x.program then x ∷ [] else [])
    go true q = rw q refl
    go false q = rw q refl
only_append i (y ∷ xs) x = go (nat_eq i y.program) refl (only_append i xs x)
  where
    go : (b : Bool) → nat_eq i y.program ≡ b → only_of i (xs ++ x ∷ []) ≡ only_of i xs ++ (if nat_eq i x.program then x ∷ [] else [])
        → only_of i (y ∷ (xs ++ x ∷ [])) ≡ only_of i (y ∷ xs) ++ (if nat_eq i x.program then x ∷ [] else [])
    go true q more = rw q (ap (λ l. y ∷ l) more)
    go false q more = rw q more

-- it was served to this program, or to another one
pub only_his : (i : ℕ) (xs : List Served) (x : Served) → x.program ≡ i → only_of i (xs ++ x ∷ []) ≡ only_of i xs ++ x ∷ []
only_his i xs x his = only_append i xs x ∙ (let same : nat_eq i x.program ≡ true = grind (arith, nat_tests) in rw same refl)

pub only_other : (j : ℕ) (xs : List Served) (x : Served) → x.program ≢ j → only_of j (xs ++ x ∷ []) ≡ only_of j xs
only_other j xs x other = only_append j xs x ∙ go (nat_eq j x.program) refl
  where
    go : (c : Bool) → nat_eq j x.program ≡ c → only_of j xs ++ (if nat_eq j x.program then x ∷ [] else []) ≡ only_of j xs
    go true q = absurd (other (grind (arith, nat_tests)))
    go false q = rw q (append-nil (only_of j xs))
