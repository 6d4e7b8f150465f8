-- What the machine's counts of bits are.
use Rattle.std.proofs.Common.{◌≡◌, ℕ, zero, suc, ◌+◌, ◌*◌, ◌/◌, ◌%◌, ◌^◌, ◌<◌, ◌≤◌, Bool, false, nat_eq, nat_lt, refl, ap, ap₂, sym, ◌∙◌, arith, add-one, one-add}
use Rattle.std.specs.Prelude.{if◌then◌else◌}
use Rattle.std.proofs.lemmas.Bool.Decides.{nat_tests}
use Rattle.std.specs.Int.Count.{ones, ones-le, ones_step, count_leading_zeros, count_trailing_zeros, leading_of_zero, under}
use Rattle.std.proofs.lemmas.Nat.{mod-pow-add, shr-shr}
use Rattle.std.proofs.Math.Nat.{pow-suc}
use Rattle.spec_runtime.specs.Numerics.{count, iclz, ictz, ipopcnt}

count_same : (n : ℕ) (p q : ℕ → Bool) → ((i : ℕ) → p i ≡ q i) → count n p ≡ count n q
unfolding count
count_same zero p q h = refl
count_same (suc n) p q h = ap₂ (λ (b : Bool) (k : ℕ). (if b then 1 else 0) + k) (h 0) (count_same n (λ i. p (suc i)) (λ i. q (suc i)) (λ i. h (suc i)))

count_none : (n : ℕ) (p : ℕ → Bool) → ((i : ℕ) → p i ≡ false) → count n p ≡ 0
unfolding count
count_none zero p h = refl
count_none (suc n) p h = ap₂ (λ (b : Bool) (k : ℕ). (if b then 1 else 0) + k) (h 0) (count_none n (λ i. p (suc i)) (λ i. h (suc i)))

-- the bit above the lowest ones is a bit of the half
one_above : (x i : ℕ) → x / 2 ^ suc i ≡ x / 2 / 2 ^ i
one_above x i = ap (λ (k : ℕ). x / 2 ^ k) (sym (one-add i)) ∙ sym (shr-shr x 1 i)

below_half : (x p : ℕ) → nat_lt x (p * 2) ≡ nat_lt (x / 2) p
below_half x p = grind (arith, nat_tests)

below_above : (x i : ℕ) → nat_lt x (2 ^ suc i) ≡ nat_lt (x / 2) (2 ^ i)
below_above x i = rw (pow-suc 2 i) (below_half x (2 ^ i))

low_bits : (x i : ℕ) → x % 2 ^ suc i ≡ (x / 2 % 2 ^ i) * 2 + x % 2
low_bits x i = ap (λ (k : ℕ). x % 2 ^ k) (sym (add-one i)) ∙ mod-pow-add x i 1

even_sum : (r p d : ℕ) → r ≡ p * 2 + d → d ≡ 0 → nat_eq r 0 ≡ nat_eq p 0
even_sum r p d e h = grind (arith, nat_tests)

odd_sum : (r p d m : ℕ) → r ≡ p * 2 + d → d ≡ suc m → nat_eq r 0 ≡ false
odd_sum r p d m e h = grind (arith, nat_tests)

zeros_above_even : (x i : ℕ) → x % 2 ≡ 0 → nat_eq (x % 2 ^ suc (suc i)) 0 ≡ nat_eq (x / 2 % 2 ^ suc i) 0
zeros_above_even x i h = even_sum (x % 2 ^ suc (suc i)) (x / 2 % 2 ^ suc i) (x % 2) (low_bits x (suc i)) h

zeros_above_odd : (x i d : ℕ) → x % 2 ≡ suc d → nat_eq (x % 2 ^ suc i) 0 ≡ false
zeros_above_odd x i d h = odd_sum (x % 2 ^ suc i) (x / 2 % 2 ^ i) (x % 2) d (low_bits x i) h

lowest_one : (x : ℕ) → x % 2 ≡ (if nat_eq (x / 2 ^ 0 % 2) 1 then 1 else 0)
lowest_one x = grind (arith, nat_tests)

half_below : (x p : ℕ) → x < p * 2 → x / 2 < p
half_below x p h = omega arith

pub popcnt_is : (k x : ℕ) → x < 2 ^ k → ones x ≡ ipopcnt k x
unfolding count
popcnt_is zero x h = let e : ones x ≤ 0 = ones-le 0 x h in omega arith
popcnt_is (suc k) x h =
    ones_step x
    ∙ ap₂ (λ (b r : ℕ). b + r) (lowest_one x) (
    popcnt_is k (x / 2) (half_below x (2 ^ k) (rw (pow-suc 2 k) at h))
    ∙ sym (count_same k (λ i. nat_eq (x / 2 ^ suc i % 2) 1) (λ i. nat_eq (x / 2 / 2 ^ i % 2) 1) (λ i. ap (λ (m : ℕ). nat_eq (m % 2) 1) (one_above x i)))
    )

not_leading : (n m : ℕ) → m ≡ (if nat_lt (suc n) (2 ^ 0) then 1 else 0) + m
not_leading n m = grind (arith, nat_tests)

pub clz_is : (k x : ℕ) → count_leading_zeros k x ≡ iclz k x
unfolding count count_leading_zeros
clz_is zero x = refl
clz_is (suc k) zero =
    sym (one-add k)
    ∙ ap (λ (m : ℕ). 1 + m) (sym (leading_of_zero k) ∙ clz_is k 0 ∙ sym (count_same k (λ i. nat_lt 0 (2 ^ suc i)) (λ i. nat_lt 0 (2 ^ i)) (λ i. below_above 0 i)))
clz_is (suc k) (suc n) =
    clz_is k (suc n / 2)
    ∙ sym (count_same k (λ i. nat_lt (suc n) (2 ^ suc i)) (λ i. nat_lt (suc n / 2) (2 ^ i)) (λ i. below_above (suc n) i))
    ∙ not_leading n (count k (λ i. nat_lt (suc n) (2 ^ suc i)))

one_more : (x m : ℕ) → x % 2 ≡ 0 → suc m ≡ (if nat_eq (x % 2 ^ 1) 0 then 1 else 0) + m
one_more x m h = grind (arith, nat_tests)

not_one : (x d m : ℕ) → x % 2 ≡ suc d → m ≡ 0 → 0 ≡ (if nat_eq (x % 2 ^ 1) 0 then 1 else 0) + m
not_one x d m h e = grind (arith, nat_tests)

-- the count of one bit more, by the lowest one
ctz_step : (k x d : ℕ) → x % 2 ≡ d → count_trailing_zeros k (x / 2) ≡ ictz k (x / 2) → under d (count_trailing_zeros k (x / 2)) ≡ ictz (suc k) x
unfolding count
ctz_step k x zero e h =
    ap suc (h ∙ sym (count_same k (λ i. nat_eq (x % 2 ^ suc (suc i)) 0) (λ i. nat_eq (x / 2 % 2 ^ suc i) 0) (λ i. zeros_above_even x i e)))
    ∙ one_more x (count k (λ i. nat_eq (x % 2 ^ suc (suc i)) 0)) e
ctz_step k x (suc d) e h = not_one x d (count k (λ i. nat_eq (x % 2 ^ suc (suc i)) 0)) e (count_none k (λ i. nat_eq (x % 2 ^ suc (suc i)) 0) (λ i. zeros_above_odd x (suc i) d e))

pub ctz_is : (k x : ℕ) → count_trailing_zeros k x ≡ ictz k x
unfolding count count_trailing_zeros
ctz_is zero x = refl
ctz_is (suc k) x = ctz_step k x (x % 2) refl (ctz_is k (x / 2))

pub ruleset counts = (popcnt_is, clz_is, ctz_is)
