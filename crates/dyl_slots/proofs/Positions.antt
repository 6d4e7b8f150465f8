-- Where elements stand in lists that are put together.
use Rattle.std.proofs.Common.{◌≡◌, ℕ, ◌+◌, Bool, true, false, List, [], ◌∷◌, ◌++◌, length, map, refl, ap, ◌∙◌, cond, Some, None, Option, arith}
use Rattle.std.specs.List.{position_from}
use Rattle.spec_loading.specs.spec_linking.Definitions.{or_other}

pub or_none : (a : Option ℕ) → or_other a None ≡ a
or_none None = refl
or_none (Some n) = refl

pub position_append : {X : Type 0} (t : X → Bool) (i : ℕ) (xs ys : List X) → position_from t i (xs ++ ys) ≡ or_other (position_from t i xs) (position_from t (i + length xs) ys)
position_append t i [] ys = ap (λ k. position_from t k ys) (omega arith)
position_append {X} t i (x ∷ xs) ys = by (t x) refl (position_append t (i + 1) xs ys ∙ ap (λ k. or_other (position_from t (i + 1) xs) (position_from t k ys)) (omega arith))
  where
    by : (b : Bool) → t x ≡ b → position_from t (i + 1) (xs ++ ys) ≡ or_other (position_from t (i + 1) xs) (position_from t (i + length (x ∷ xs)) ys)
        → position_from t i ((x ∷ xs) ++ ys) ≡ or_other (position_from t i (x ∷ xs)) (position_from t (i + length (x ∷ xs)) ys)
    by true p rest = rw p refl
    by false p rest = rw p rest

pub position_map : {X Y : Type 0} (t : Y → Bool) (f : X → Y) (i : ℕ) (xs : List X) → position_from t i (map f xs) ≡ position_from (λ x. t (f x)) i xs
position_map t f i [] = refl
position_map t f i (x ∷ xs) = ap (λ r. cond (t (f x)) (Some i) r) (position_map t f (i + 1) xs)

pub position_nowhere : {X : Type 0} (i : ℕ) (xs : List X) → position_from (λ (x : X). false) i xs ≡ None
position_nowhere i [] = refl
position_nowhere i (x ∷ xs) = position_nowhere (i + 1) xs
