-- Names that are printed are read again.
use Rattle.std.proofs.Common.{◌≡◌, ℕ, ◌<◌, Bool, true, false, eqb, List, [], ◌∷◌, ◌++◌, IsUtf8, Some, refl, ap, ◌∙◌, subst, arith, inl, inr, lt-ltb, le-ltb}
use Rattle.std.specs.List.{AllByRecursion}
use Rattle.std.proofs.lemmas.Bool.{cases_lt, and_parts, not-true}
use Rattle.std.proofs.lemmas.Str.{is_utf8-from_IsUtf8}
use lib.Utf8.{scalar, scalars, encode, encodes, scalar_cases}
use Rattle.dyl_print.specs.Printed.{is_printed, escaped_byte, escaped}
use Rattle.spec_traces.specs.Reading.{behind_byte, unescaped, name_of}
use Rattle.spec_traces.proofs.Seen.{each-append}
use Rattle.spec_traces.proofs.WordsAgain.{byte_again}

-- ---- the bytes of UTF-8

abbrev AreBytes : List ℕ → Type 0
AreBytes bytes = AllByRecursion (λ b. b < 256) bytes

below_all : (c : ℕ) → scalar c ≡ true → c < 1114112
below_all c e = elim (scalar_cases c e) [ inl low ↦ omega arith | inr high ↦ high.1 ]

encode_bytes : (c : ℕ) → scalar c ≡ true → AreBytes (encode c)
unfolding encode
encode_bytes c e = elim (cases_lt c 128) [
  | inl one ↦ rw (lt-ltb c 128 one) (omega arith, tt)
  | inr more ↦ elim (cases_lt c 2048) [
    | inl two ↦ rw (le-ltb c 128 more, lt-ltb c 2048 two) (omega arith, (omega arith, tt))
    | inr more2 ↦ elim (cases_lt c 65536) [
      | inl three ↦ rw (le-ltb c 128 more, le-ltb c 2048 more2, lt-ltb c 65536 three) (omega arith, (omega arith, (omega arith, tt)))
      | inr four ↦
          let below = below_all c e in
          rw (le-ltb c 128 more, le-ltb c 2048 more2, le-ltb c 65536 four) (omega arith, (omega arith, (omega arith, (omega arith, tt))))
    ]
  ]
]

encodes_bytes : (cs : List ℕ) → scalars cs ≡ true → AreBytes (encodes cs)
encodes_bytes [] e = tt
encodes_bytes (c ∷ cs) e =
    let both = and_parts (scalar c) (scalars cs) e in
    each-append (λ b. b < 256) (encode c) (encodes cs) (encode_bytes c both.0) (encodes_bytes cs both.1)

utf8_bytes : (name : List ℕ) → IsUtf8 name → AreBytes name
utf8_bytes name u = subst AreBytes u.1.1 (encodes_bytes u.0 u.1.0)

-- ---- names

-- a byte that is printed as it is isn't the backslash
no_backslash : (b : ℕ) → is_printed b ≡ true → eqb b 0x5C ≡ false
no_backslash b e = not-true _ (and_parts _ _ e).1

as_it_is : (b : ℕ) (rest : List ℕ) → is_printed b ≡ true → unescaped (b ∷ rest) ≡ behind_byte b (unescaped rest)
unfolding unescaped
as_it_is b [] e = rw (e, no_backslash b e) refl
as_it_is b (c ∷ []) e = rw (e, no_backslash b e) refl
as_it_is b (c ∷ d ∷ rest) e = rw (e, no_backslash b e) refl

character_again : (b : ℕ) (rest : List ℕ) (printed : Bool) → is_printed b ≡ printed → b < 256 → unescaped (escaped_byte b ++ rest) ≡ behind_byte b (unescaped rest)
unfolding unescaped
character_again b rest true e h = rw e (as_it_is b rest e)
character_again b rest false e h = rw (e, byte_again b h, e) refl

bytes_of_name_again : (bytes : List ℕ) → AreBytes bytes → unescaped (escaped bytes) ≡ Some bytes
unfolding unescaped
bytes_of_name_again [] a = refl
bytes_of_name_again (b ∷ bytes) a = character_again b (escaped bytes) (is_printed b) refl a.0 ∙ ap (behind_byte b) (bytes_of_name_again bytes a.1)

pub name_again : (name : List ℕ) → IsUtf8 name → name_of (escaped name) ≡ Some name
name_again name u = rw (bytes_of_name_again name (utf8_bytes name u), is_utf8-from_IsUtf8 name u) refl
