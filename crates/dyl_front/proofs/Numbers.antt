-- What `parse` answers for the digits of an option.
use Rattle.std.proofs.Common.{rules, ◌≡◌, ◌≤◌, ◌<◌, ◌^◌, ℕ, Bool, true, false, List, [], ◌∷◌, length, Result, Ok, Err, inl, inr, sym, ap, ◌∙◌, true≢false, not, ◌==◌, arith}
use Rattle.std.specs.List.{list_all}
use Rattle.std.specs.Str.Parse.{digits_value, ParsesUnsigned}
use Rattle.std.proofs.lemmas.Bool.{cases_lt, and_parts}
use Rattle.std.proofs.lemmas.Str.Parse.{IsDigitsTest, IsNumeralModel, numerals_by_value, parse_gives}
use Rattle.dyl_front.specs.Orders.{is_digit, is_number}

tests : IsDigitsTest (λ ds. list_all is_digit ds ≡ true)
tests = search rules

digits : IsNumeralModel (λ ds. list_all is_digit ds ≡ true) (digits_value 10)
digits = numerals_by_value (λ ds. list_all is_digit ds ≡ true) tests

abbrev is_ok : {A E : Type 0} → Result A E → Bool
is_ok (Ok x) = true
is_ok (Err e) = false

some_digits : (bs : List ℕ) → is_number bs ≡ true → (0 < length bs) × (list_all is_digit bs ≡ true)
some_digits [] h = absurd (true≢false (sym h))
some_digits (b ∷ bs) h = (omega arith, (and_parts (not (length (b ∷ bs) == 0)) (list_all is_digit (b ∷ bs)) h).1)

-- digits that aren't read are a number of more than 64 bits
pub too_large : {E : Type 0} (bs : List ℕ) (r : Result ℕ E) (e : E) → ParsesUnsigned 64 10 bs r → is_number bs ≡ true → r ≡ Err e → 2 ^ 64 ≤ digits_value 10 bs
too_large bs r e h d k = elim (cases_lt (digits_value 10 bs) (2 ^ 64)) [
  | inl low ↦ let both = some_digits bs d in absurd (true≢false (sym (ap is_ok (parse_gives digits 64 bs r h both.1 both.0 low)) ∙ ap is_ok k))
  | inr high ↦ high
]
