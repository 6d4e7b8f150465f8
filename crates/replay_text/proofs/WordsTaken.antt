-- Words that are read were printed so.
use Rattle.std.proofs.Common.{◌≡◌, ℕ, ◌+◌, ◌-◌, ◌*◌, ◌/◌, ◌%◌, ◌^◌, ◌<◌, ◌≤◌, Bool, true, false, cond, not, eqb, leb, ltb, ◌&&◌, List, [], ◌∷◌, ◌++◌, length, get_or, map, flat_map, codes, decimal, IsUtf8, bytes_eq, Option, Some, None, refl, sym, ap, ap₂, ◌∙◌, subst, arith, inl, inr, append-nil, lt-ltb, le-ltb, ltb-true, leb-true, eqb-true}
use Rattle.std.specs.Prelude.{◌⊎◌}
use Rattle.std.specs.Char.{is_ascii_digit}
use Rattle.std.specs.List.{AllByRecursion, list_all, slice_split, join_with_byte}
use Rattle.std.specs.Str.Parse.{digits_value}
use Rattle.std.proofs.lemmas.Bool.{and_parts, not-true, eqb-false}
use Rattle.std.proofs.lemmas.Fmt.{decimal-digits_value}
use Rattle.std.proofs.lemmas.List.Splits.{length-slice_split, join_with_byte-slice_split}
use Rattle.std.proofs.lemmas.Slice.Eq.{bytes_eq-Decides}
use Rattle.std.proofs.lemmas.Str.{IsUtf8-from_is_utf8}
use Rattle.std.specs.Str.{is_utf8}
use Rattle.dyl_print.specs.Printed.{hex_digit, hex_byte, bytes_word, is_printed, escaped_byte, escaped}
use Rattle.spec_traces.specs.Texts.{spaced}
use Rattle.spec_traces.specs.Reading.{is_space, cut, words_of, named_so, begins_well, is_number, number_of, number_below, numbers_of, digit_of, byte_of, digits_as_bytes, some_bytes, bytes_of, hidden_byte, behind_byte, behind_printed, unescaped, name_of}
use Rattle.spec_traces.proofs.of_spec_binary.Options.{went_on}
use Rattle.spec_traces.proofs.WordsAgain.{digit_texts}

-- ---- which way a test went

pub chosen : {A : Type 0} (b : Bool) (x : Option A) (z : A) → cond b x None ≡ Some z → (b ≡ true) × (x ≡ Some z)
chosen true x z e = (refl, e)
chosen false x z e = absurd cc

pub refused : {A : Type 0} (b : Bool) (x : Option A) (z : A) → cond b None x ≡ Some z → (b ≡ false) × (x ≡ Some z)
refused true x z e = absurd cc
refused false x z e = (refl, e)

pub either : {A : Type 0} (b : Bool) (x y : Option A) (z : A) → cond b x y ≡ Some z → ((b ≡ true) × (x ≡ Some z)) ⊎ ((b ≡ false) × (y ≡ Some z))
either true x y z e = inl (refl, e)
either false x y z e = inr (refl, e)

pub some_is : {A : Type 0} (x y : A) → ◌≡◌ {A = Option A} (Some x) (Some y) → x ≡ y
some_is x y e = cc

pub same_text : (text word : List ℕ) → bytes_eq text word ≡ true → text ≡ word
same_text text word e = (bytes_eq-Decides text word).0 e

-- ---- words and spaces

-- a word, and what stands behind the space that ends it
abbrev pub joined : List ℕ → Option (List ℕ) → List ℕ
joined word None = word
joined word (Some rest) = word ++ 0x20 ∷ rest

joined-cons : (b : ℕ) (word : List ℕ) (rest : Option (List ℕ)) → joined (b ∷ word) rest ≡ b ∷ joined word rest
joined-cons b word None = refl
joined-cons b word (Some rest) = refl

cut-cons : (b : ℕ) (text : List ℕ) (space : Bool) → is_space b ≡ space → joined (cut text).0 (cut text).1 ≡ text → joined (cut (b ∷ text)).0 (cut (b ∷ text)).1 ≡ b ∷ text
cut-cons b text true e so = rw e (ap (λ c. c ∷ text) (sym (eqb-true b 0x20 e)))
cut-cons b text false e so = rw e (joined-cons b (cut text).0 (cut text).1 ∙ ap (λ (l : List ℕ). b ∷ l) so)

pub cut_taken : (text : List ℕ) → joined (cut text).0 (cut text).1 ≡ text
cut_taken [] = refl
cut_taken (b ∷ text) = cut-cons b text (is_space b) refl (cut_taken text)

spaced_words : (words : List (List ℕ)) → 0 < length words → 0x20 ∷ join_with_byte 0x20 words ≡ spaced words
spaced_words [] some = absurd (omega arith)
spaced_words (word ∷ []) some = ap (λ (l : List ℕ). 0x20 ∷ l) (sym (append-nil word))
spaced_words (word ∷ next ∷ words) some = ap (λ (l : List ℕ). 0x20 ∷ (word ++ l)) (spaced_words (next ∷ words) (omega arith))

pub words_taken : (word : List ℕ) (rest : Option (List ℕ)) → joined word rest ≡ word ++ spaced (words_of rest)
words_taken word None = sym (append-nil word)
words_taken word (Some text) =
    ap (λ (l : List ℕ). word ++ l)
    (ap (λ (l : List ℕ). 0x20 ∷ l) (sym (join_with_byte-slice_split 0x20 text)) ∙ spaced_words (slice_split is_space text) (omega (arith, length-slice_split is_space text)))

module _ {A : Type 0} (text_for : A → List ℕ) (P : A → Type 0) where
  pub named_taken : (xs : List A) (text : List ℕ) (x : A) → AllByRecursion P xs → named_so text_for xs text ≡ Some x → (text ≡ text_for x) × P x
  named_taken [] text x all e = absurd cc
  named_taken (y ∷ ys) text x all e = elim (either (bytes_eq text (text_for y)) _ _ x e) [
    | inl found ↦ subst (λ z. (text ≡ text_for z) × P z) (some_is y x found.1) (same_text text (text_for y) found.0, all.0)
    | inr further ↦ named_taken ys text x all.1 further.1
  ]

-- ---- numbers

no_zero : (b : ℕ) → not (eqb b 0x30) ≡ true → b ≡ 48 → ⊥
no_zero b e zero_first = eqb-false b 0x30 (not-true _ e) zero_first

pub well_begun : (word : List ℕ) → begins_well word ≡ true → (0 < length word) × (get_or word 0 0 ≡ 48 → length word ≡ 1)
well_begun [] e = absurd cc
well_begun (b ∷ []) e = (omega arith, λ zero_first. refl)
well_begun (b ∷ c ∷ word) e = (omega arith, λ zero_first. absurd (no_zero b e zero_first))

pub number_taken : (word : List ℕ) (n : ℕ) → number_of word ≡ Some n → (word ≡ decimal n) × (n < 2 ^ 64)
number_taken word n e =
    let found = chosen (is_number word && ltb (digits_value 10 word) (2 ^ 64)) (Some (digits_value 10 word)) n e in
    let tests = and_parts (is_number word) (ltb (digits_value 10 word) (2 ^ 64)) found.0 in
    let parts = and_parts (begins_well word) (list_all is_ascii_digit word) tests.0 in
    let begun = well_begun word parts.0 in
    let low : digits_value 10 word < 2 ^ 64 = ltb-true _ _ tests.1 in
    let same = some_is (digits_value 10 word) n found.1 in
    (sym (decimal-digits_value digit_texts word parts.1 begun.0 begun.1 low) ∙ ap decimal same, subst (λ m. m < 2 ^ 64) same low)

pub below_taken : (end : ℕ) (word : List ℕ) (n : ℕ) → number_below end word ≡ Some n → (word ≡ decimal n) × (n < end)
below_taken end word n e =
    let read = went_on (number_of word) _ n e in
    let low = chosen (ltb read.0 end) (Some read.0) n read.2 in
    let same = some_is read.0 n low.1 in
    subst (λ m. (word ≡ decimal m) × (m < end)) same ((number_taken word read.0 read.1).0, ltb-true _ _ low.0)

pub numbers_taken : (words : List (List ℕ)) (ns : List ℕ) → numbers_of words ≡ Some ns → (words ≡ map decimal ns) × AllByRecursion (λ n. n < 2 ^ 64) ns
unfolding numbers_of
numbers_taken [] ns e = subst (λ l. ([] ≡ map decimal l) × AllByRecursion (λ n. n < 2 ^ 64) l) (some_is [] ns e) (refl, tt)
numbers_taken (word ∷ words) ns e =
    let first = went_on (number_of word) _ ns e in
    let further = went_on (numbers_of words) _ ns first.2 in
    let one = number_taken word first.0 first.1 in
    let others = numbers_taken words further.0 further.1 in
    subst (λ l. (word ∷ words ≡ map decimal l) × AllByRecursion (λ n. n < 2 ^ 64) l) (some_is (first.0 ∷ further.0) ns further.2)
    (ap₂ (λ (w : List ℕ) (ws : List (List ℕ)). w ∷ ws) one.0 others.0, (one.1, others.1))

-- ---- bytes

digit_taken : (c n : ℕ) → digit_of c ≡ Some n → (c ≡ hex_digit n) × (n < 16)
digit_taken c n e = elim (either (leb 0x30 c && leb c 0x39) _ _ n e) [
  | inl found ↦
      let range = and_parts (leb 0x30 c) (leb c 0x39) found.0 in
      let above : 0x30 ≤ c = leb-true _ _ range.0 in
      let below : c ≤ 0x39 = leb-true _ _ range.1 in
      let same = some_is (c - 0x30) n found.1 in
      let low : n < 10 = omega (arith, same) in
      (rw (lt-ltb n 10 low) (omega (arith, same)), omega arith)
  | inr further ↦
      let found = chosen (leb 0x61 c && leb c 0x66) (Some (c - 0x57)) n further.1 in
      let range = and_parts (leb 0x61 c) (leb c 0x66) found.0 in
      let above : 0x61 ≤ c = leb-true _ _ range.0 in
      let below : c ≤ 0x66 = leb-true _ _ range.1 in
      let same = some_is (c - 0x57) n found.1 in
      let high : 10 ≤ n = omega (arith, same) in
      (rw (le-ltb n 10 high) (omega (arith, same)), omega (arith, same))
]

pub byte_taken : (high low b : ℕ) → byte_of high low ≡ Some b → (high ∷ low ∷ [] ≡ hex_byte b) × (b < 256)
byte_taken high low b e =
    let first = went_on (digit_of high) _ b e in
    let second = went_on (digit_of low) _ b first.2 in
    let same = some_is (first.0 * 16 + second.0) b second.2 in
    let one = digit_taken high first.0 first.1 in
    let other = digit_taken low second.0 second.1 in
    let front : b / 16 % 16 ≡ first.0 = omega (arith, same, one.1, other.1) in
    let back : b % 16 ≡ second.0 = omega (arith, same, one.1, other.1) in
    (rw (front, back) (ap₂ (λ h l. h ∷ l ∷ []) one.0 other.0), omega (arith, same, one.1, other.1))

digits_taken : (word bytes : List ℕ) → digits_as_bytes word ≡ Some bytes → (word ≡ flat_map hex_byte bytes) × AllByRecursion (λ b. b < 256) bytes
unfolding digits_as_bytes
digits_taken [] bytes e = subst (λ l. ([] ≡ flat_map hex_byte l) × AllByRecursion (λ b. b < 256) l) (some_is [] bytes e) (refl, tt)
digits_taken (high ∷ []) bytes e = absurd cc
digits_taken (high ∷ low ∷ word) bytes e =
    let first = went_on (byte_of high low) _ bytes e in
    let further = went_on (digits_as_bytes word) _ bytes first.2 in
    let one = byte_taken high low first.0 first.1 in
    let others = digits_taken word further.0 further.1 in
    subst (λ l. (high ∷ low ∷ word ≡ flat_map hex_byte l) × AllByRecursion (λ b. b < 256) l) (some_is (first.0 ∷ further.0) bytes further.2)
    (ap₂ (λ (p q : List ℕ). p ++ q) one.0 others.0, (one.1, others.1))

some_digits : (c : ℕ) (word bytes : List ℕ) → c ∷ word ≡ flat_map hex_byte bytes → c ∷ word ≡ bytes_word bytes
some_digits c word [] e = absurd cc
some_digits c word (b ∷ bytes) e = e

some_taken : (word bytes : List ℕ) → some_bytes word ≡ Some bytes → (word ≡ bytes_word bytes) × AllByRecursion (λ b. b < 256) bytes
some_taken [] bytes e = absurd cc
some_taken (c ∷ word) bytes e = let read = digits_taken (c ∷ word) bytes e in (some_digits c word bytes read.0, read.1)

pub bytes_taken : (word bytes : List ℕ) → bytes_of word ≡ Some bytes → (word ≡ bytes_word bytes) × AllByRecursion (λ b. b < 256) bytes
bytes_taken word bytes e = elim (either (bytes_eq word (codes "-")) _ _ bytes e) [
  | inl none ↦ subst (λ l. (word ≡ bytes_word l) × AllByRecursion (λ b. b < 256) l) (some_is [] bytes none.1) (same_text word (codes "-") none.0, tt)
  | inr some ↦ some_taken word bytes some.1
]

-- ---- names

printed_taken : (b : ℕ) (rest bytes : List ℕ) (read : Option (List ℕ)) → behind_printed b read ≡ Some bytes → ((xs : List ℕ) → read ≡ Some xs → rest ≡ escaped xs) → b ∷ rest ≡ escaped bytes
printed_taken b rest bytes read e others =
    let plain = chosen (is_printed b) (behind_byte b read) bytes e in
    let further = went_on read _ bytes plain.1 in
    let spelled : escaped_byte b ≡ b ∷ [] = rw plain.0 refl in
    subst (λ l. b ∷ rest ≡ escaped l) (some_is (b ∷ further.0) bytes further.2)
    (sym (ap (λ (l : List ℕ). l ++ escaped further.0) spelled ∙ ap (λ (l : List ℕ). b ∷ l) (sym (others further.0 further.1))))

hidden_taken : (c d b : ℕ) → hidden_byte c d ≡ Some b → 0x5C ∷ c ∷ d ∷ [] ≡ escaped_byte b
hidden_taken c d b e =
    let read = went_on (byte_of c d) _ b e in
    let unprinted = refused (is_printed read.0) (Some read.0) b read.2 in
    let spelled : escaped_byte read.0 ≡ 0x5C ∷ hex_byte read.0 = rw unprinted.0 refl in
    subst (λ x. 0x5C ∷ c ∷ d ∷ [] ≡ escaped_byte x) (some_is read.0 b unprinted.1) (ap (λ (l : List ℕ). 0x5C ∷ l) (byte_taken c d read.0 read.1).0 ∙ sym spelled)

unescaped_taken : (word bytes : List ℕ) → unescaped word ≡ Some bytes → word ≡ escaped bytes
unfolding unescaped
unescaped_taken [] bytes e = ap escaped (some_is [] bytes e)
unescaped_taken (b ∷ []) bytes e =
    let plain = refused (eqb b 0x5C) (behind_printed b (Some [])) bytes e in
    printed_taken b [] bytes (Some []) plain.1 (λ xs same. ap escaped (some_is [] xs same))
unescaped_taken (b ∷ c ∷ []) bytes e =
    let plain = refused (eqb b 0x5C) (behind_printed b (unescaped (c ∷ []))) bytes e in
    printed_taken b (c ∷ []) bytes (unescaped (c ∷ [])) plain.1 (λ xs same. unescaped_taken (c ∷ []) xs same)
unescaped_taken (b ∷ c ∷ d ∷ word) bytes e = elim (either (eqb b 0x5C) _ _ bytes e) [
  | inl hidden ↦
      let first = went_on (hidden_byte c d) _ bytes hidden.1 in
      let further = went_on (unescaped word) _ bytes first.2 in
      let one : b ∷ c ∷ d ∷ [] ≡ escaped_byte first.0 = ap (λ x. x ∷ c ∷ d ∷ []) (eqb-true b 0x5C hidden.0) ∙ hidden_taken c d first.0 first.1 in
      subst (λ l. b ∷ c ∷ d ∷ word ≡ escaped l) (some_is (first.0 ∷ further.0) bytes further.2) (ap₂ (λ (p q : List ℕ). p ++ q) one (unescaped_taken word further.0 further.1))
  | inr plain ↦ printed_taken b (c ∷ d ∷ word) bytes (unescaped (c ∷ d ∷ word)) plain.1 (λ xs same. unescaped_taken (c ∷ d ∷ word) xs same)
]

pub name_taken : (word name : List ℕ) → name_of word ≡ Some name → (word ≡ escaped name) × IsUtf8 name
name_taken word name e =
    let read = went_on (unescaped word) _ name e in
    let tested = chosen (is_utf8 read.0) (Some read.0) name read.2 in
    subst (λ n. (word ≡ escaped n) × IsUtf8 n) (some_is read.0 name tested.1) (unescaped_taken word read.0 read.1, IsUtf8-from_is_utf8 read.0 tested.0)
