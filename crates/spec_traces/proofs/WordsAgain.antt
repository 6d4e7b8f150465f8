-- Numbers and bytes that are printed are read again.
use Rattle.std.proofs.Common.{◌≡◌, ℕ, ◌+◌, ◌-◌, ◌*◌, ◌/◌, ◌%◌, ◌^◌, ◌<◌, ◌≤◌, true, false, eqb, ◌&&◌, List, [], ◌∷◌, length, get_or, map, flat_map, decimal, Some, refl, ap, ◌∙◌, arith, inl, inr, lt-ltb, le-ltb, le-leb, ne_eqb, rules}
use Rattle.std.specs.Char.{is_ascii_digit}
use Rattle.std.specs.List.{AllByRecursion, list_all}
use Rattle.std.specs.Str.Parse.{digits_value}
use Rattle.std.proofs.lemmas.Bool.{cases_lt, cases_eq, and_from, and_right, not_from_false, lt-leb}
use Rattle.std.proofs.lemmas.Fmt.{decimal_is_IsNumeral, digits_decimal, digits_value-decimal, decimal_digit, first_decimal}
use Rattle.std.proofs.lemmas.Str.Parse.{IsDigitsTest, IsNumeralModel, numerals_by_value}
use Rattle.dyl_print.specs.Printed.{hex_digit, hex_byte, bytes_word}
use Rattle.spec_traces.specs.Reading.{begins_well, is_number, number_of, number_below, numbers_of, digit_of, byte_of, digits_as_bytes, bytes_of}

-- ---- numbers

tests : IsDigitsTest (λ ds. list_all is_ascii_digit ds ≡ true)
tests = search rules

pub digit_texts : IsNumeralModel (λ ds. list_all is_ascii_digit ds ≡ true) (digits_value 10)
digit_texts = numerals_by_value (λ ds. list_all is_ascii_digit ds ≡ true) tests

-- digits that begin with no zero
no_zero : (ds : List ℕ) → 0 < length ds → 48 < get_or ds 0 0 → begins_well ds ≡ true
no_zero [] some first = absurd (omega arith)
no_zero (b ∷ []) some first = refl
no_zero (b ∷ c ∷ ds) some first = not_from_false _ (ne_eqb b 0x30 (λ e. omega arith))

begins : (n : ℕ) → n < 2 ^ 64 → begins_well (decimal n) ≡ true
begins n h = elim (cases_eq n 0) [
  | inl zero_is ↦ ap (λ m. begins_well (decimal m)) zero_is ∙ ap begins_well (decimal_digit 0 (omega arith))
  | inr some ↦ no_zero (decimal n) (decimal_is_IsNumeral n h).0.0 (first_decimal n (omega arith) h)
]

decimal_is_number : (n : ℕ) → n < 2 ^ 64 → is_number (decimal n) ≡ true
decimal_is_number n h = and_from _ _ (begins n h) (digits_decimal digit_texts n h)

pub number_again : (n : ℕ) → n < 2 ^ 64 → number_of (decimal n) ≡ Some n
number_again n h = rw (decimal_is_number n h, digits_value-decimal digit_texts n h, lt-ltb n (2 ^ 64) h) refl

pub below_again : (end n : ℕ) → end ≤ 2 ^ 64 → n < end → number_below end (decimal n) ≡ Some n
below_again end n fits h = rw (number_again n (omega arith), lt-ltb n end h) refl

pub numbers_again : (ns : List ℕ) → AllByRecursion (λ n. n < 2 ^ 64) ns → numbers_of (map decimal ns) ≡ Some ns
unfolding numbers_of
numbers_again [] a = refl
numbers_again (n ∷ ns) a = rw (number_again n a.0, numbers_again ns a.1) refl

-- ---- bytes

digit_again : (n : ℕ) → n < 16 → digit_of (hex_digit n) ≡ Some n
digit_again n h = elim (cases_lt n 10) [
  | inl low ↦
      let back : n + 48 - 0x30 ≡ n = omega arith in
      rw (lt-ltb n 10 low, le-leb 0x30 (n + 48) (omega arith), le-leb (n + 48) 0x39 (omega arith), back) refl
  | inr high ↦
      let back : n + 87 - 0x57 ≡ n = omega arith in
      rw (le-ltb n 10 high, le-leb 0x30 (n + 87) (omega arith), lt-leb (n + 87) 0x39 (omega arith), le-leb 0x61 (n + 87) (omega arith), le-leb (n + 87) 0x66 (omega arith), back) refl
]

pub byte_again : (b : ℕ) → b < 256 → byte_of (hex_digit (b / 16 % 16)) (hex_digit (b % 16)) ≡ Some b
byte_again b h =
    let whole : b / 16 % 16 * 16 + b % 16 ≡ b = omega arith in
    rw (digit_again (b / 16 % 16) (omega arith), digit_again (b % 16) (omega arith), whole) refl

digits_again : (bytes : List ℕ) → AllByRecursion (λ b. b < 256) bytes → digits_as_bytes (flat_map hex_byte bytes) ≡ Some bytes
unfolding digits_as_bytes
digits_again [] a = refl
digits_again (b ∷ bytes) a = rw (byte_again b a.0, digits_again bytes a.1) refl

pub bytes_again : (bytes : List ℕ) → AllByRecursion (λ b. b < 256) bytes → bytes_of (bytes_word bytes) ≡ Some bytes
bytes_again [] a = refl
bytes_again (b ∷ bytes) a =
    let longer : (eqb (hex_digit (b / 16 % 16)) 0x2D && false) ≡ false = and_right _ _ refl in
    rw longer (digits_again (b ∷ bytes) a)
