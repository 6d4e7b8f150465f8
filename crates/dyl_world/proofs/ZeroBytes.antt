-- Where the first zero byte stands, and that bytes are as code loads them.
use Rattle.std.proofs.Common.{◌≡◌, ℕ, zero, suc, ◌<◌, Bool, true, false, List, [], ◌∷◌, length, get_or, take, map, Some, None, nat_eq, refl, ap₂, arith}
use Rattle.std.specs.List.{All}
use Rattle.std.proofs.lemmas.List.Elements.{All-head, All-tail}
use Rattle.std.proofs.Math.Nat.{mod-eq_of_lt}
use Rattle.std.proofs.lemmas.Bool.Decides.{nat_tests}
use Rattle.spec_loading.specs.spec_runtime.Numerics.{W32}
use Rattle.spec_loading.specs.spec_execution.Values.{low}
use Rattle.spec_loading.specs.LoaderAnswers.{before_zero}

-- the bytes before a zero byte, before which there is none
pub first_zero : (xs : List ℕ) (i : ℕ) → i < length xs → get_or xs i 0 ≡ 0 → ((k : ℕ) → k < i → get_or xs k 0 ≡ 0 → ⊥) → before_zero xs ≡ Some (take i xs)
first_zero [] i inside here before = absurd (omega arith)
first_zero (x ∷ xs) zero inside here before = (let same : x ≡ 0 = here in rw same refl)
first_zero (x ∷ xs) (suc i) inside here before = by (nat_eq x 0) refl (first_zero xs i (omega arith) here (λ k lt e. before (suc k) (omega arith) e))
  where
    by : (b : Bool) → nat_eq x 0 ≡ b → before_zero xs ≡ Some (take i xs) → before_zero (x ∷ xs) ≡ Some (take (suc i) (x ∷ xs))
    by true p rest = (let same : x ≡ 0 = grind (arith, nat_tests) in absurd (before 0 (omega arith) same))
    by false p rest = rw (p, rest) refl

-- there is none
pub no_zero : (xs : List ℕ) → ((k : ℕ) → k < length xs → get_or xs k 0 ≡ 0 → ⊥) → before_zero xs ≡ None
no_zero [] before = refl
no_zero (x ∷ xs) before = by (nat_eq x 0) refl (no_zero xs (λ k lt e. before (suc k) (omega arith) e))
  where
    by : (b : Bool) → nat_eq x 0 ≡ b → before_zero xs ≡ None → before_zero (x ∷ xs) ≡ None
    by true p rest = (let same : x ≡ 0 = grind (arith, nat_tests) in absurd (before 0 (omega arith) same))
    by false p rest = rw (p, rest) refl

pub loaded_bytes : (xs : List ℕ) → All (λ n. n < 256) xs → map (low W32) xs ≡ xs
loaded_bytes [] all = refl
loaded_bytes (x ∷ xs) all =
    let less : x < 4294967296 = (let byte = All-head (λ n. n < 256) x xs all in omega arith) in
    ap₂ (λ (y : ℕ) (ys : List ℕ). y ∷ ys) (mod-eq_of_lt less) (loaded_bytes xs (All-tail (λ n. n < 256) x xs all))
