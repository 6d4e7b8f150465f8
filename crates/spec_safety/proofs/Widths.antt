-- Operators keep the widths of numbers.
use Rattle.std.proofs.Common.{◌≡◌, ℕ, zero, suc, ◌+◌, ◌-◌, ◌*◌, ◌/◌, ◌%◌, ◌^◌, ◌<◌, ◌≤◌, ℤ, pos, negsuc, ◌-ℤ◌, Bool, true, false, nat_eq, nat_lt, Some, refl, ap, ap₂, ◌∙◌, subst, arith, if◌then◌else◌, add-zero}
use Rattle.std.specs.Prelude.{neg_ℤ, int_div, int_rem, unsigned_abs}
use Rattle.std.specs.Ordering.{int_eq}
use Rattle.std.specs.Int.{int_shr}
use Rattle.std.specs.Int.Bits.{and_lt}
use Rattle.std.proofs.lemmas.Int.{ints}
use Rattle.std.proofs.lemmas.Nat.{or_lt, xor_lt, mod_below, pow_pos, pow-add, shr_below, shl-shr, mod-pow-add, mul-add-lt}
use Rattle.std.proofs.lemmas.Bool.Decides.{nat_tests}
use Rattle.std.proofs.Math.Nat.{div-le_self, mod-le, mul-mod_left, add_comm, mul_comm}
use Rattle.std.proofs.Math.Pow.{pow-sub-lt, pow_mono}
use Rattle.spec_execution.specs.wasm_form.declared.access.MemoryAccess.{MemoryAccess}
use Rattle.spec_execution.specs.wasm_form.declared.runtime.Trap.TheVariants.{DivideByZero, Overflow}
use Rattle.spec_execution.specs.wasm_form.Access.{memory_access}
use Rattle.spec_execution.specs.spec_runtime.Numerics.{Width, W32, W64, bits, Outcome, Whole, Traps, Unary, Clz, Ctz, Popcnt, Binary, Add, Sub, Mul, DivS, DivU, RemS, RemU, And, Or, Xor, Shl, ShrS, ShrU, Rotl, Rotr, Convert, WrapI64, ExtendI32S, ExtendI32U, I32Extend8S, I32Extend16S, I64Extend8S, I64Extend16S, I64Extend32S, count, signed, unsigned, quotient, iextend_s, unary, binary, convert, converts_from, converts_to}
use Rattle.spec_execution.specs.Values.{low}
use Rattle.spec_execution.specs.Activations.{one_if}
use Rattle.spec_execution.specs.Views.{type_bits, is_signed, access_length, load_extended}

pub low_fits : (w : Width) (n : ℕ) → low w n < 2 ^ bits w
low_fits w n = mod_below n (2 ^ bits w) (pow_pos (bits w))

pub one_fits : (b : Bool) → one_if b < 2 ^ 32
one_fits true = omega arith
one_fits false = omega arith

-- ---- counts

one_at_most : (b : Bool) (n k : ℕ) → n ≤ k → (if b then 1 else 0) + n ≤ suc k
one_at_most true n k h = omega arith
one_at_most false n k h = omega arith

count_most : (n : ℕ) (has : ℕ → Bool) → count n has ≤ n
unfolding count
count_most zero has = omega arith
count_most (suc n) has = one_at_most (has 0) (count n (λ i. has (suc i))) n (count_most n (λ i. has (suc i)))

width_fits : (w : Width) (n : ℕ) → n ≤ bits w → n < 2 ^ bits w
width_fits W32 n h = omega arith
width_fits W64 n h = omega arith

pub unary_fits : (w : Width) (o : Unary) (a : ℕ) → a < 2 ^ bits w → unary w o a < 2 ^ bits w
unary_fits w Clz a h = width_fits w (unary w Clz a) (count_most (bits w) _)
unary_fits w Ctz a h = width_fits w (unary w Ctz a) (count_most (bits w) _)
unary_fits w Popcnt a h = width_fits w (unary w Popcnt a) (count_most (bits w) _)

-- ---- signed readings

gap_small : (k x : ℕ) (z : ℤ) → 0 < x → x ≤ 2 ^ k → pos x -ℤ pos (2 ^ k) ≡ z → unsigned_abs z < 2 ^ k
gap_small k x (pos m) some most e = omega (arith, ints)
gap_small k x (negsuc m) some most e = omega (arith, ints)

signed_small : (k x : ℕ) → x < 2 ^ k → unsigned_abs (signed k x) < 2 ^ k
signed_small k x h = go (nat_lt x (2 ^ (k - 1))) refl
  where
    go : (b : Bool) → nat_lt x (2 ^ (k - 1)) ≡ b → unsigned_abs (if b then pos x else (pos x -ℤ pos (2 ^ k))) < 2 ^ k
    go true q = h
    go false q =
        let some : 0 < 2 ^ (k - 1) = pow_pos (k - 1) in
        gap_small k x (pos x -ℤ pos (2 ^ k)) (grind (arith, nat_tests)) (omega arith) refl

unsigned_fits : (k : ℕ) (z : ℤ) → unsigned_abs z < 2 ^ k → unsigned k z < 2 ^ k
unsigned_fits k (pos m) h = h
unsigned_fits k (negsuc m) h = pow-sub-lt k (omega arith)

negated_small : (n k : ℕ) → n ≤ k → unsigned_abs (neg_ℤ (pos n)) ≤ k
negated_small zero k h = h
negated_small (suc n) k h = h

quotient_small : (a d : ℤ) → unsigned_abs (int_div a d) ≤ unsigned_abs a
quotient_small (pos a) (pos b) = div-le_self a b
quotient_small (pos a) (negsuc b) = negated_small (a / suc b) a (div-le_self a (suc b))
quotient_small (negsuc a) (pos b) = negated_small (suc a / b) (suc a) (div-le_self (suc a) b)
quotient_small (negsuc a) (negsuc b) = div-le_self (suc a) (suc b)

rest_small : (a d : ℤ) → unsigned_abs (int_rem a d) ≤ unsigned_abs a
rest_small (pos a) d = mod-le a (unsigned_abs d)
rest_small (negsuc a) d = negated_small (suc a % unsigned_abs d) (suc a) (mod-le (suc a) (unsigned_abs d))

shifted_small : (a : ℤ) (k : ℕ) → unsigned_abs (int_shr a k) ≤ unsigned_abs a
shifted_small (pos a) k = div-le_self a (2 ^ k)
shifted_small (negsuc a) k = (let less = div-le_self a (2 ^ k) in omega arith)

-- ---- rotations

-- the low bits stand above, and the high ones below
joined_fits : (m j a : ℕ) → a < 2 ^ (j + m) → (a * 2 ^ j) % 2 ^ (m + j) + a / 2 ^ m < 2 ^ (m + j)
joined_fits m j a h =
    let low_bits : (a * 2 ^ j) % 2 ^ (m + j) ≡ (a % 2 ^ m) * 2 ^ j =
    mod-pow-add (a * 2 ^ j) m j
    ∙ ap₂ (λ (x y : ℕ). (x % 2 ^ m) * 2 ^ j + y) (shl-shr a j) (mul-mod_left a (2 ^ j))
    ∙ add-zero ((a % 2 ^ m) * 2 ^ j) in
    let below = mul-add-lt (a % 2 ^ m) (2 ^ j) (a / 2 ^ m) (2 ^ m) (mod_below a (2 ^ m) (pow_pos m)) (shr_below a j m h) in
    rw (low_bits, pow-add 2 m j) (subst (λ (n : ℕ). (a % 2 ^ m) * 2 ^ j + a / 2 ^ m < n) (mul_comm (2 ^ j) (2 ^ m)) below)

turned_fits : (n m j a : ℕ) → m + j ≡ n → a < 2 ^ n → (a * 2 ^ j) % 2 ^ n + a / 2 ^ m < 2 ^ n
turned_fits n m j a e h =
    let flipped : n ≡ j + m = omega arith in
    subst (λ (k : ℕ). (a * 2 ^ j) % 2 ^ k + a / 2 ^ m < 2 ^ k) e (joined_fits m j a (subst (λ (k : ℕ). a < 2 ^ k) flipped h))

some_bits : (w : Width) → 0 < bits w
some_bits W32 = omega arith
some_bits W64 = omega arith

-- ---- operators of two numbers

whole_same : {a n : ℕ} → Whole a ≡ Whole n → a ≡ n
whole_same e = ap (λ o. number o) e
  where
    number : Outcome → ℕ
    number (Whole n) = n
    number (Traps why) = 0

is_below : (w : Width) (a n : ℕ) → a < 2 ^ bits w → Whole a ≡ Whole n → n < 2 ^ bits w
is_below w a n h e = subst (λ k. k < 2 ^ bits w) (whole_same e) h

remains : (w : Width) (a n : ℕ) → Whole (a % 2 ^ bits w) ≡ Whole n → n < 2 ^ bits w
remains w a n e = is_below w (a % 2 ^ bits w) n (low_fits w a) e

unless_zero : (w : Width) (b : Bool) (o : Outcome) (n : ℕ) → (o ≡ Whole n → n < 2 ^ bits w)
    → (if b then Traps DivideByZero else o) ≡ Whole n → n < 2 ^ bits w
unless_zero w true o n h e = absurd cc
unless_zero w false o n h e = h e

quotient_fits : (w : Width) (z : ℤ) (n : ℕ) → unsigned_abs z < 2 ^ bits w → quotient (bits w) z ≡ Whole n → n < 2 ^ bits w
quotient_fits w z n h e = go (int_eq z (pos (2 ^ (bits w - 1)))) e
  where
    go : (b : Bool) → (if b then Traps Overflow else Whole (unsigned (bits w) z)) ≡ Whole n → n < 2 ^ bits w
    go true e = absurd cc
    go false e = is_below w (unsigned (bits w) z) n (unsigned_fits (bits w) z h) e

pub binary_fits : (w : Width) (o : Binary) (a b n : ℕ) → a < 2 ^ bits w → b < 2 ^ bits w → binary w o a b ≡ Whole n → n < 2 ^ bits w
binary_fits w Add a b n h k e = remains w (a + b) n e
binary_fits w Sub a b n h k e = remains w (a + (2 ^ bits w - b)) n e
binary_fits w Mul a b n h k e = remains w (a * b) n e
binary_fits w DivS a b n h k e =
    let small = signed_small (bits w) a h in
    let less = quotient_small (signed (bits w) a) (signed (bits w) b) in
    let whole : ℤ = int_div (signed (bits w) a) (signed (bits w) b) in
    unless_zero w (nat_eq b 0) (quotient (bits w) whole) n (quotient_fits w whole n (omega arith)) e
binary_fits w DivU a b n h k e = (let less = div-le_self a b in unless_zero w (nat_eq b 0) (Whole (a / b)) n (is_below w (a / b) n (omega arith)) e)
binary_fits w RemS a b n h k e =
    let small = signed_small (bits w) a h in
    let less = rest_small (signed (bits w) a) (signed (bits w) b) in
    let rest : ℤ = int_rem (signed (bits w) a) (signed (bits w) b) in
    unless_zero w (nat_eq b 0) (Whole (unsigned (bits w) rest)) n
    (is_below w (unsigned (bits w) rest) n (unsigned_fits (bits w) rest (omega arith))) e
binary_fits w RemU a b n h k e = (let less = mod-le a b in unless_zero w (nat_eq b 0) (Whole (a % b)) n (is_below w (a % b) n (omega arith)) e)
binary_fits w And a b n h k e = is_below w _ n (and_lt (bits w) a b h k) e
binary_fits w Or a b n h k e = is_below w _ n (or_lt (bits w) a b h k) e
binary_fits w Xor a b n h k e = is_below w _ n (xor_lt (bits w) a b h k) e
binary_fits w Shl a b n h k e = remains w (a * 2 ^ (b % bits w)) n e
binary_fits w ShrS a b n h k e =
    let small = signed_small (bits w) a h in
    let less = shifted_small (signed (bits w) a) (b % bits w) in
    is_below w _ n (unsigned_fits (bits w) (int_shr (signed (bits w) a) (b % bits w)) (omega arith)) e
binary_fits w ShrU a b n h k e = (let less = div-le_self a (2 ^ (b % bits w)) in is_below w (a / 2 ^ (b % bits w)) n (omega arith) e)
binary_fits w Rotl a b n h k e =
    let turn = mod_below b (bits w) (some_bits w) in
    is_below w _ n (turned_fits (bits w) (bits w - b % bits w) (b % bits w) a (omega arith) h) e
binary_fits w Rotr a b n h k e =
    let turn = mod_below b (bits w) (some_bits w) in
    is_below w _ n (subst (λ (m : ℕ). m < 2 ^ bits w) (add_comm _ _) (turned_fits (bits w) (b % bits w) (bits w - b % bits w) a (omega arith) h)) e

-- ---- extension

extended_small : (m n x : ℕ) → m ≤ n → iextend_s m n x < 2 ^ n
extended_small m n x h =
    let small = signed_small m (x % 2 ^ m) (mod_below x (2 ^ m) (pow_pos m)) in
    let wider = pow_mono h in
    unsigned_fits n (signed m (x % 2 ^ m)) (omega arith)

pub convert_fits : (o : Convert) (a : ℕ) → a < 2 ^ bits (converts_from o) → convert o a < 2 ^ bits (converts_to o)
convert_fits WrapI64 a h = low_fits W32 a
convert_fits ExtendI32S a h = extended_small 32 64 a (omega arith)
convert_fits ExtendI32U a h = omega arith
convert_fits I32Extend8S a h = extended_small 8 32 a (omega arith)
convert_fits I32Extend16S a h = extended_small 16 32 a (omega arith)
convert_fits I64Extend8S a h = extended_small 8 64 a (omega arith)
convert_fits I64Extend16S a h = extended_small 16 64 a (omega arith)
convert_fits I64Extend32S a h = extended_small 32 64 a (omega arith)

access_within : (op : ℕ) (m : MemoryAccess) → memory_access op ≡ Some m → 8 * access_length m ≤ type_bits m.value
access_within op m e = grind (arith, nat_tests)

pub extended_fits : (op : ℕ) (m : MemoryAccess) (n : ℕ) → memory_access op ≡ Some m → n < 2 ^ (8 * access_length m)
    → load_extended op m n < 2 ^ type_bits m.value
extended_fits op m n e h = go (is_signed op)
  where
    inside : 8 * access_length m ≤ type_bits m.value
    inside = access_within op m e

    go : (b : Bool) → (if b then iextend_s (8 * access_length m) (type_bits m.value) n else n) < 2 ^ type_bits m.value
    go true = extended_small (8 * access_length m) (type_bits m.value) n inside
    go false = (let wider = pow_mono inside in omega arith)
