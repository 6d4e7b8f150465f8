-- Rotations as sums.
use Rattle.std.proofs.Common.{◌≡◌, ℕ, suc, zero, ◌+◌, ◌*◌, ◌-◌, ◌/◌, ◌%◌, ◌^◌, ◌<◌, ap, ap₂, sym, ◌∙◌, subst, arith, w32, w64, mod-eq_of_lt, add-zero}
use Rattle.std.proofs.Math.Nat.{sub-zero, mul-mod_left, mod_self, div-one, mul-one, add_comm, div-eq_of_lt}
use Rattle.std.specs.Int.Bits.{bit_or, or_self}
use Rattle.std.specs.Int.{rotate_left, rotate_right}
use Rattle.std.proofs.lemmas.Nat.{or_shifted, or_comm, shr_below, shl-shr, mod-pow-add}
use Rattle.spec_runtime.specs.Numerics.{irotl, irotr}

-- the low m bits stand above, and the high j bits below
joined_at : (m j a : ℕ) → a < 2 ^ (j + m) → bit_or ((a * 2 ^ j) % 2 ^ (m + j)) (a / 2 ^ m) ≡ (a * 2 ^ j) % 2 ^ (m + j) + a / 2 ^ m
joined_at m j a h =
    let low : (a * 2 ^ j) % 2 ^ (m + j) ≡ (a % 2 ^ m) * 2 ^ j = mod-pow-add (a * 2 ^ j) m j ∙ ap₂ (λ (x y : ℕ). (x % 2 ^ m) * 2 ^ j + y) (shl-shr a j) (mul-mod_left a (2 ^ j)) ∙ add-zero ((a % 2 ^ m) * 2 ^ j) in
    rw low (or_shifted (a % 2 ^ m) j (a / 2 ^ m) (shr_below a j m h))

joined : (n m j a : ℕ) → m + j ≡ n → j + m ≡ n → a < 2 ^ n → bit_or ((a * 2 ^ j) % 2 ^ n) (a / 2 ^ m) ≡ (a * 2 ^ j) % 2 ^ n + a / 2 ^ m
joined n m j a e f h =
    subst (λ (k : ℕ). bit_or ((a * 2 ^ j) % 2 ^ k) (a / 2 ^ m) ≡ (a * 2 ^ j) % 2 ^ k + a / 2 ^ m) e (joined_at m j a (subst (λ (k : ℕ). a < 2 ^ k) (sym f) h))

-- a rotation by 0
whole_left : (n a : ℕ) → a < 2 ^ n → (a * 2 ^ 0) % 2 ^ n ≡ a
whole_left n a h = ap (λ (k : ℕ). k % 2 ^ n) (mul-one a) ∙ mod-eq_of_lt h

none_below : (n a : ℕ) → a < 2 ^ n → a / 2 ^ n ≡ 0
none_below n a h = div-eq_of_lt h

pub rotl_is : (n k a : ℕ) → a < 2 ^ n → k < n → bit_or ((a * 2 ^ k) % 2 ^ n) (a / 2 ^ ((n - k) % n)) ≡ (a * 2 ^ k) % 2 ^ n + a / 2 ^ (n - k)
rotl_is n zero a h q =
    let none : (n - 0) % n ≡ 0 = ap (λ (k : ℕ). k % n) (sub-zero n) ∙ mod_self n in
    let whole : n - 0 ≡ n = sub-zero n in
    ap₂ bit_or (whole_left n a h) (ap (λ (k : ℕ). a / 2 ^ k) none ∙ div-one a)
    ∙ or_self a
    ∙ sym (ap₂ (λ (x y : ℕ). x + y) (whole_left n a h) (ap (λ (k : ℕ). a / 2 ^ k) whole ∙ none_below n a h) ∙ add-zero a)
rotl_is n (suc k) a h q = ap (λ (i : ℕ). bit_or ((a * 2 ^ suc k) % 2 ^ n) (a / 2 ^ i)) (mod-eq_of_lt (omega arith)) ∙ joined n (n - suc k) (suc k) a (omega arith) (omega arith) h

pub rotr_is : (n k a : ℕ) → a < 2 ^ n → k < n → bit_or (a / 2 ^ k) ((a * 2 ^ ((n - k) % n)) % 2 ^ n) ≡ a / 2 ^ k + (a * 2 ^ (n - k)) % 2 ^ n
rotr_is n zero a h q =
    let none : (n - 0) % n ≡ 0 = ap (λ (k : ℕ). k % n) (sub-zero n) ∙ mod_self n in
    let whole : n - 0 ≡ n = sub-zero n in
    ap₂ bit_or (div-one a) (ap (λ (k : ℕ). (a * 2 ^ k) % 2 ^ n) none ∙ whole_left n a h)
    ∙ or_self a
    ∙ sym (ap₂ (λ (x y : ℕ). x + y) (div-one a) (ap (λ (k : ℕ). (a * 2 ^ k) % 2 ^ n) whole ∙ mul-mod_left a (2 ^ n)) ∙ add-zero a)
rotr_is n (suc k) a h q =
    ap (λ (i : ℕ). bit_or (a / 2 ^ suc k) ((a * 2 ^ i) % 2 ^ n)) (mod-eq_of_lt (omega arith))
    ∙ or_comm (a / 2 ^ suc k) ((a * 2 ^ (n - suc k)) % 2 ^ n)
    ∙ joined n (suc k) (n - suc k) a (omega arith) (omega arith) h
    ∙ add_comm ((a * 2 ^ (n - suc k)) % 2 ^ n) (a / 2 ^ suc k)

mod_twice : (b : ℕ) → b % 64 % 64 ≡ b % 64
mod_twice b = omega arith

pub rotl_64 : (a b : ℕ) → a < 2 ^ 64 → rotate_left w64 a (b % 64) ≡ irotl 64 a b
rotl_64 a b h = rotl_is 64 (b % 64 % 64) a h (omega arith) ∙ ap (λ (k : ℕ). (a * 2 ^ k) % 2 ^ 64 + a / 2 ^ (64 - k)) (mod_twice b)

pub rotr_64 : (a b : ℕ) → a < 2 ^ 64 → rotate_right w64 a (b % 64) ≡ irotr 64 a b
rotr_64 a b h = rotr_is 64 (b % 64 % 64) a h (omega arith) ∙ ap (λ (k : ℕ). a / 2 ^ k + (a * 2 ^ (64 - k)) % 2 ^ 64) (mod_twice b)

pub rotl_32 : (a b : ℕ) → a < 2 ^ 32 → rotate_left w32 a b ≡ irotl 32 a b
rotl_32 a b h = rotl_is 32 (b % 32) a h (omega arith)

pub rotr_32 : (a b : ℕ) → a < 2 ^ 32 → rotate_right w32 a b ≡ irotr 32 a b
rotr_32 a b h = rotr_is 32 (b % 32) a h (omega arith)
