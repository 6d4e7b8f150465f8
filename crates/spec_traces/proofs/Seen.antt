-- Which bytes stand in words and in lines.
use Rattle.std.proofs.Common.{◌≡◌, ℕ, ◌/◌, ◌%◌, ◌^◌, ◌<◌, ◌≤◌, Bool, true, false, ◌&&◌, leb, ltb, List, [], ◌∷◌, ◌++◌, map, flat_map, codes, decimal, refl, arith, inl, inr, leb-true, ltb-true, lt-ltb, le-ltb}
use Rattle.std.specs.List.{AllByRecursion, list_all}
use Rattle.std.specs.Str.Parse.{AllDigits}
use Rattle.std.proofs.lemmas.Bool.{cases_lt, and_parts}
use Rattle.std.proofs.lemmas.Fmt.{decimal_is_IsNumeral}
use Rattle.std.proofs.lemmas.Str.Parse.{digit_from_value}
use Rattle.dyl_print.specs.Printed.{hex_digit, hex_byte, bytes_word, is_printed, escaped_byte, escaped}
use Rattle.spec_traces.specs.Texts.{spaced}

-- a byte of a word
abbrev pub IsSeen : ℕ → Type 0
IsSeen b = (0x20 < b) × (b < 0x80)

abbrev pub IsWord : List ℕ → Type 0
IsWord word = AllByRecursion IsSeen word

-- a byte of a line
abbrev pub IsOnLine : ℕ → Type 0
IsOnLine b = (0x20 ≤ b) × (b < 0x80)

abbrev pub IsPlain : List ℕ → Type 0
IsPlain line = AllByRecursion IsOnLine line

module _ {A : Type 0} (P : A → Type 0) where
  pub each-append : (xs ys : List A) → AllByRecursion P xs → AllByRecursion P ys → AllByRecursion P (xs ++ ys)
  each-append [] ys a b = b
  each-append (x ∷ xs) ys a b = (a.0, each-append xs ys a.1 b)

  pub each-weaker : (Q : A → Type 0) → ((x : A) → P x → Q x) → (xs : List A) → AllByRecursion P xs → AllByRecursion Q xs
  each-weaker Q h [] a = tt
  each-weaker Q h (x ∷ xs) a = (h x a.0, each-weaker Q h xs a.1)

  pub each-map : {B : Type 0} (f : B → A) (Q : B → Type 0) → ((y : B) → Q y → P (f y)) → (ys : List B) → AllByRecursion Q ys → AllByRecursion P (map f ys)
  each-map f Q h [] a = tt
  each-map f Q h (y ∷ ys) a = (h y a.0, each-map f Q h ys a.1)

-- texts that are written out

abbrev is_on_line : ℕ → Bool
is_on_line b = leb 0x20 b && ltb b 0x80

abbrev is_seen : ℕ → Bool
is_seen b = ltb 0x20 b && ltb b 0x80

pub plain_by_test : (line : List ℕ) → list_all is_on_line line ≡ true → IsPlain line
plain_by_test [] e = tt
plain_by_test (b ∷ line) e =
    let both = and_parts (is_on_line b) (list_all is_on_line line) e in
    let one = and_parts (leb 0x20 b) (ltb b 0x80) both.0 in
    ((leb-true _ _ one.0, ltb-true _ _ one.1), plain_by_test line both.1)

pub seen_by_test : (word : List ℕ) → list_all is_seen word ≡ true → IsWord word
seen_by_test [] e = tt
seen_by_test (b ∷ word) e =
    let both = and_parts (is_seen b) (list_all is_seen word) e in
    let one = and_parts (ltb 0x20 b) (ltb b 0x80) both.0 in
    ((ltb-true _ _ one.0, ltb-true _ _ one.1), seen_by_test word both.1)

-- ---- words

digits_seen : (ds : List ℕ) → AllDigits 10 ds → IsWord ds
digits_seen [] a = tt
digits_seen (d ∷ ds) a = let c = digit_from_value d a.0 in ((omega arith, omega arith), digits_seen ds a.1)

pub decimal_seen : (n : ℕ) → n < 2 ^ 64 → IsWord (decimal n)
decimal_seen n h = digits_seen (decimal n) (decimal_is_IsNumeral n h).0.1

digit_seen : (n : ℕ) → n < 16 → IsSeen (hex_digit n)
digit_seen n h = elim (cases_lt n 10) [
  | inl low ↦ rw (lt-ltb n 10 low) (omega arith, omega arith)
  | inr high ↦ rw (le-ltb n 10 high) (omega arith, omega arith)
]

byte_seen : (b : ℕ) → IsWord (hex_byte b)
byte_seen b = (digit_seen (b / 16 % 16) (omega arith), (digit_seen (b % 16) (omega arith), tt))

digits_of_bytes_seen : (bytes : List ℕ) → IsWord (flat_map hex_byte bytes)
digits_of_bytes_seen [] = tt
digits_of_bytes_seen (b ∷ bytes) = each-append IsSeen (hex_byte b) (flat_map hex_byte bytes) (byte_seen b) (digits_of_bytes_seen bytes)

pub bytes_seen : (bytes : List ℕ) → IsWord (bytes_word bytes)
bytes_seen [] = seen_by_test (codes "-") refl
bytes_seen (b ∷ bytes) = digits_of_bytes_seen (b ∷ bytes)

character_seen : (b : ℕ) (printed : Bool) → is_printed b ≡ printed → IsWord (escaped_byte b)
character_seen b true e =
    let both = and_parts _ _ e in
    let one = and_parts (ltb 0x20 b) (ltb b 0x7F) both.0 in
    let low : 0x20 < b = ltb-true _ _ one.0 in
    let high : b < 0x7F = ltb-true _ _ one.1 in
    rw e ((low, omega arith), tt)
character_seen b false e = rw e ((omega arith, omega arith), byte_seen b)

pub escaped_seen : (bytes : List ℕ) → IsWord (escaped bytes)
escaped_seen [] = tt
escaped_seen (b ∷ bytes) = each-append IsSeen (escaped_byte b) (escaped bytes) (character_seen b (is_printed b) refl) (escaped_seen bytes)

-- ---- lines

pub word_plain : (word : List ℕ) → IsWord word → IsPlain word
word_plain word a = each-weaker IsSeen IsOnLine (λ b s. (omega (arith, s.0), s.1)) word a

pub spaced_plain : (words : List (List ℕ)) → AllByRecursion IsPlain words → IsPlain (spaced words)
spaced_plain [] a = tt
spaced_plain (word ∷ words) a = ((omega arith, omega arith), each-append IsOnLine word (spaced words) a.0 (spaced_plain words a.1))
