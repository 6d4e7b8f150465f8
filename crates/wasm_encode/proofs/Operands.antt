-- What follows opcodes: which forms they have, the operands of second opcodes, and the bits of floats.
use Rattle.std.proofs.Common.{◌≡◌, ◌≢◌, inl, inr, eqb-true, w32, w64, ℕ, suc, ◌*◌, ◌/◌, ◌%◌, ◌^◌, ◌<◌, ◌≤◌, true, List, [], ◌∷◌, ◌++◌, length, refl, sym, ap, ◌∙◌, subst, arith}
use Rattle.std.specs.Prelude.{zero}
use Rattle.std.specs.Prelude.{IsTrue, nat_eq, ◌&&◌}
use Rattle.std.proofs.lemmas.Bool.{and_parts, cases_lt, cases_eq, lt-ltb, le-ltb, ne_eqb}
use Rattle.std.proofs.Math.Nat.{pow-suc, pow-succ', div-div-eq-div-mul}
use Rattle.std.specs.Int.{byte_at, bytes_low_first, to_le_bytes}
use Rattle.wasm_form.specs.declared.instr.Instr.TheOpen as Open
use Rattle.spec_reading.specs.spec_binary.Number.{SpellsUnsigned, IsShortest, Appends}
use Rattle.spec_reading.specs.spec_binary.Operands.{Operands, NoOperand, OneIndex, MemoryArgument, operands, SecondOperands, NoNumber, OneNumber, TwoNumbers, NumberAndZero, OneZero, TwoZeros, NoSecondOpcode, second_operands}
use Rattle.spec_reading.specs.spec_binary.Instructions.{SpellsBits, none, next, SpellsSecond, no_number, one_number, two_numbers, number_and_zero, one_zero, two_zeros}
use Rattle.spec_reading.specs.spec_binary.WellFormed.{has_form}
use Rattle.spec_reading.specs.spec_binary.Joined.{IsByte, Joined}
use Rattle.spec_reading.proofs.of_spec_binary.Joined.{joined, behind, unjoined, itself, appends_byte, appends_joined, appends_like, appends_nothing, appends_after}

-- the forms that a well formed instruction's opcode has
plain_form : (op : ℕ) (o : Operands) → operands op ≡ o → IsTrue (has_form (Open.Plain op)) → operands op ≡ NoOperand
plain_form op NoOperand e h = e
plain_form op o e h = absurd (let f = rw e at h in cc)

pub plain_opcode : (op : ℕ) → IsTrue (has_form (Open.Plain op)) → operands op ≡ NoOperand
plain_opcode op = plain_form op (operands op) refl

index_form : (op n : ℕ) (o : Operands) → operands op ≡ o → IsTrue (has_form (Open.Index op n)) → operands op ≡ OneIndex
index_form op n OneIndex e h = e
index_form op n o e h = absurd (let f = rw e at h in cc)

pub index_opcode : (op n : ℕ) → IsTrue (has_form (Open.Index op n)) → operands op ≡ OneIndex
index_opcode op n = index_form op n (operands op) refl

access_form : (op align offset : ℕ) (o : Operands) → operands op ≡ o → IsTrue (has_form (Open.Access op align offset)) → operands op ≡ MemoryArgument
access_form op align offset MemoryArgument e h = e
access_form op align offset o e h = absurd (let f = rw e at h in cc)

pub access_opcode : (op align offset : ℕ) → IsTrue (has_form (Open.Access op align offset)) → operands op ≡ MemoryArgument
access_opcode op align offset = access_form op align offset (operands op) refl

-- the operands of a second opcode, by their form
abbrev pub SecondWord : SecondOperands → ℕ → ℕ → List ℕ → Type 0
SecondWord NoNumber x y w = w ≡ []
SecondWord OneNumber x y w = SpellsUnsigned 32 x w
SecondWord TwoNumbers x y w = Joined (SpellsUnsigned 32 x) (SpellsUnsigned 32 y) w
SecondWord NumberAndZero x y w = Joined (SpellsUnsigned 32 x) (IsByte 0x00) w
SecondWord OneZero x y w = IsByte 0x00 w
SecondWord TwoZeros x y w = Joined (IsByte 0x00) (IsByte 0x00) w
SecondWord NoSecondOpcode x y w = ⊥

pub second_word : {op x y : ℕ} {w : List ℕ} (o : SecondOperands) → second_operands op ≡ o → SpellsSecond op x y w → SecondWord o x y w
second_word {x} {y} {w} o e (no_number f) = subst (λ p. SecondWord p x y w) (sym f ∙ e) refl
second_word {x} {y} {w} o e (one_number f s) = subst (λ p. SecondWord p x y w) (sym f ∙ e) s
second_word {x} {y} {w} o e (two_numbers f s t) = subst (λ p. SecondWord p x y w) (sym f ∙ e) (joined _ _ s t)
second_word {x} {y} {w} o e (number_and_zero f s) = subst (λ p. SecondWord p x y w) (sym f ∙ e) (joined _ _ s refl)
second_word {x} {y} {w} o e (one_zero f) = subst (λ p. SecondWord p x y w) (sym f ∙ e) refl
second_word {x} {y} {w} o e (two_zeros f) = subst (λ p. SecondWord p x y w) (sym f ∙ e) (behind 0x00 (0x00 ∷ []) refl)

-- which opcodes have which form
small_second : (op : ℕ) → op < 8 → second_operands op ≡ NoNumber
small_second op h = rw (lt-ltb op 8 h) refl

large_second : (op : ℕ) → 18 ≤ op → second_operands op ≡ NoSecondOpcode
large_second op h =
    rw (le-ltb op 8 (omega arith)) (rw (ne_eqb op 8 (λ e. omega arith)) (rw (ne_eqb op 9 (λ e. omega arith)) (rw (ne_eqb op 10 (λ e. omega arith)) (rw (ne_eqb op 11 (λ e. omega arith))
    (rw (ne_eqb op 12 (λ e. omega arith)) (rw (ne_eqb op 13 (λ e. omega arith)) (rw (ne_eqb op 14 (λ e. omega arith)) (rw (le-ltb op 18 h) refl))))))))

late_second : (op : ℕ) → 15 ≤ op → op < 18 → second_operands op ≡ OneNumber
late_second op l h =
    rw (le-ltb op 8 (omega arith)) (rw (ne_eqb op 8 (λ e. omega arith)) (rw (ne_eqb op 9 (λ e. omega arith)) (rw (ne_eqb op 10 (λ e. omega arith)) (rw (ne_eqb op 11 (λ e. omega arith))
    (rw (ne_eqb op 12 (λ e. omega arith)) (rw (ne_eqb op 13 (λ e. omega arith)) (rw (ne_eqb op 14 (λ e. omega arith)) (rw (lt-ltb op 18 h) refl))))))))

pub no_number_form : (op : ℕ) → op < 8 → second_operands op ≡ NoNumber
no_number_form = small_second

pub one_number_form : (op x y : ℕ) → 8 ≤ op → op ≢ 8 → op ≢ 10 → op ≢ 11 → op ≢ 12 → op ≢ 14 → IsTrue (has_form (Open.Prefixed op x y)) → second_operands op ≡ OneNumber
one_number_form op x y l a b c d e h = elim (cases_eq op 9) [
  | inl nine ↦ rw nine refl
  | inr not_nine ↦ elim (cases_eq op 13) [
    | inl thirteen ↦ rw thirteen refl
    | inr not_thirteen ↦ elim (cases_lt op 18) [
      | inl small ↦ late_second op (omega arith) small
      | inr large ↦ absurd (let f = rw (large_second op large) at h in cc)
    ]
  ]
]

-- the numbers that aren't spelled are 0
two_zero_bytes : {op x y : ℕ} (w v : List ℕ) → IsByte 0x00 w → IsByte 0x00 v → SpellsSecond op x y (0x00 ∷ 0x00 ∷ []) → SpellsSecond op x y (w ++ v)
two_zero_bytes {op} {x} {y} w v a b s = subst (λ u. SpellsSecond op x y (u ++ v)) (sym a) (subst (λ u. SpellsSecond op x y (0x00 ∷ u)) (sym b) s)

module _ (op x y : ℕ) (h : IsTrue (has_form (Open.Prefixed op x y))) where
  zeros : (nat_eq x 0 && nat_eq y 0) ≡ true → {w : List ℕ} → SpellsSecond op 0 0 w → SpellsSecond op x y w
  zeros f {w} s = let parts = and_parts (nat_eq x 0) (nat_eq y 0) f in subst (λ a. SpellsSecond op a y w) (sym (eqb-true x 0 parts.0)) (subst (λ b. SpellsSecond op 0 b w) (sym (eqb-true y 0 parts.1)) s)

  second_zero : nat_eq y 0 ≡ true → {w : List ℕ} → SpellsSecond op x 0 w → SpellsSecond op x y w
  second_zero f {w} s = subst (λ b. SpellsSecond op x b w) (sym (eqb-true y 0 f)) s

  module _ (old new : List ℕ) where
    second_written : (o : SecondOperands) → second_operands op ≡ o → ((w : List ℕ) → SecondWord o x y w → SpellsSecond op x y w) → Appends (IsShortest (SecondWord o x y)) old new
        → Appends (IsShortest (SpellsSecond op x y)) old new
    second_written o e make = appends_like old new make (λ other s. itself other (second_word o e s))

    pub no_number_written : second_operands op ≡ NoNumber → new ≡ old → Appends (IsShortest (SpellsSecond op x y)) old new
    no_number_written e same =
        second_written NoNumber e (λ w p. subst (SpellsSecond op x y) (sym p) (zeros (rw e at h) (no_number e)))
        (subst (λ t. Appends (IsShortest (SecondWord NoNumber x y)) old t) (sym same) (appends_nothing {P = IsShortest (SecondWord NoNumber x y)} old (record { spelled = refl; least = λ other p. omega arith })))

    pub one_number_written : second_operands op ≡ OneNumber → Appends (IsShortest (SpellsUnsigned 32 x)) old new → Appends (IsShortest (SpellsSecond op x y)) old new
    one_number_written e = second_written OneNumber e (λ w p. second_zero (rw e at h) (one_number e p))

    pub two_numbers_written : second_operands op ≡ TwoNumbers → Appends (IsShortest (Joined (SpellsUnsigned 32 x) (SpellsUnsigned 32 y))) old new → Appends (IsShortest (SpellsSecond op x y)) old new
    two_numbers_written e = second_written TwoNumbers e (unjoined (SpellsSecond op x y) (λ w v s t. two_numbers e s t))

    pub number_and_zero_written : (middle : List ℕ) → second_operands op ≡ NumberAndZero → Appends (IsShortest (SpellsUnsigned 32 x)) old middle → new ≡ middle ++ 0x00 ∷ []
        → Appends (IsShortest (SpellsSecond op x y)) old new
    number_and_zero_written middle e a b =
        second_written NumberAndZero e (unjoined (SpellsSecond op x y) (λ w v s z. subst (λ u. SpellsSecond op x y (w ++ u)) (sym z) (second_zero (rw e at h) (number_and_zero e s))))
        (appends_joined old middle new a (appends_byte middle new 0x00 b))

    pub one_zero_written : second_operands op ≡ OneZero → new ≡ old ++ 0x00 ∷ [] → Appends (IsShortest (SpellsSecond op x y)) old new
    one_zero_written e b = second_written OneZero e (λ w z. subst (SpellsSecond op x y) (sym z) (zeros (rw e at h) (one_zero e))) (appends_byte old new 0x00 b)

    pub two_zeros_written : (middle : List ℕ) → second_operands op ≡ TwoZeros → middle ≡ old ++ 0x00 ∷ [] → new ≡ middle ++ 0x00 ∷ [] → Appends (IsShortest (SpellsSecond op x y)) old new
    two_zeros_written middle e a b =
        second_written TwoZeros e (unjoined (SpellsSecond op x y) (λ w v a b. two_zero_bytes w v a b (zeros (rw e at h) (two_zeros e))))
        (appends_joined old middle new (appends_byte old middle 0x00 a) (appends_byte middle new 0x00 b))

-- floats
bits_length : {n v : ℕ} {w : List ℕ} → SpellsBits n v w → length w ≡ n
bits_length none = refl
bits_length (next h e s) = ap suc (bits_length s)

shortest_bits : (n v : ℕ) (w : List ℕ) → SpellsBits n v w → IsShortest (SpellsBits n v) w
shortest_bits n v w s = record { spelled = s; least = λ other o. omega (arith, bits_length s, bits_length o) }

byte_is : (i n : ℕ) → byte_at i n ≡ n / 256 ^ i % 256
byte_is zero n = omega arith
byte_is (suc i) n = refl

low_bytes : (k i n : ℕ) → n / 256 ^ i < 256 ^ k → SpellsBits k (n / 256 ^ i) (bytes_low_first i k n)
low_bytes zero i n h = subst (λ v. SpellsBits zero v []) (omega arith) none
low_bytes (suc k) i n h =
    let more : n / 256 ^ i / 256 ≡ n / 256 ^ suc i = div-div-eq-div-mul n (256 ^ i) 256 ∙ ap (λ p. n / p) (sym (pow-suc 256 i)) in
    let room : 256 ^ suc k ≡ 256 * 256 ^ k = pow-succ' 256 k in
    next {b = byte_at i n} {high = n / 256 ^ suc i} (omega (arith, byte_is i n)) (omega (arith, byte_is i n, more)) (low_bytes k (suc i) n (omega (arith, more, room, h)))

pub f32_bits : (n : ℕ) → n < 2 ^ 32 → IsShortest (SpellsBits 4 n) (to_le_bytes w32 n)
f32_bits n h = shortest_bits 4 n (to_le_bytes w32 n) (subst (λ v. SpellsBits 4 v (bytes_low_first 0 4 n)) (omega arith) (low_bytes 4 0 n (omega arith)))

pub f64_bits : (n : ℕ) → n < 2 ^ 64 → IsShortest (SpellsBits 8 n) (to_le_bytes w64 n)
f64_bits n h = shortest_bits 8 n (to_le_bytes w64 n) (subst (λ v. SpellsBits 8 v (bytes_low_first 0 8 n)) (omega arith) (low_bytes 8 0 n (omega arith)))

pub bits_written : (b k n : ℕ) (bytes old middle new : List ℕ) → IsShortest (SpellsBits k n) bytes → middle ≡ old ++ b ∷ [] → new ≡ middle ++ bytes → Appends (IsShortest (Joined (IsByte b) (SpellsBits k n))) old new
bits_written b k n bytes old middle new p e f = appends_after b old middle new e (bytes, p, f)
