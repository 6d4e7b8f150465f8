-- What std tells of words: where a text is cut, what `parse` answers, which bytes are a text, which words differ.
use Rattle.std.proofs.Common.{◌≡◌, ◌≢◌, ℕ, ◌^◌, ◌<◌, true, false, ltb, ◌&&◌, List, length, get_or, Some, None, Option, Bor, Result, Ok, Err, lit<, sym, ap, ◌∙◌, inl, inr, ne_eqb, le-ltb, true≢false, Bool, refl, codes, IsUtf8}
use Rattle.std.specs.Char.{is_ascii_digit}
use Rattle.std.specs.List.{list_all}
use Rattle.std.specs.Str.Parse.{digits_value, ParsesUnsigned}
use Rattle.std.specs.Str.{is_utf8}
use Rattle.std.proofs.lemmas.Bool.{cases_lt, and_parts, and_right, false_from_ne_true}
use Rattle.std.proofs.lemmas.List.Elements.{All-from_get_or, recursion_from_All}
use Rattle.std.proofs.lemmas.Str.{IsUtf8-from_is_utf8, is_utf8-from_IsUtf8}
use Rattle.std.proofs.lemmas.Str.Parse.{parse_gives}
use Rattle.std.proofs.lemmas.Str.Pattern.{IsSplitOnceResult, split_parts}
use Rattle.spec_traces.specs.declared.line.Line.{Line}
use Rattle.spec_traces.specs.Reading.{is_space, cut, begins_well, is_number, number_of, unescaped, name_of, end_by, line_of}
use Rattle.spec_traces.proofs.of_spec_binary.Lists.{bytes_differ}
use Rattle.spec_traces.proofs.Spaces.{IsSpaceless, cut_at, cut_none}
use Rattle.spec_traces.proofs.WordsAgain.{digit_texts}
use Rattle.replay_text.proofs.WordsTaken.{well_begun}
use Rattle.replay_text.proofs.LinesTaken.{line_utf8}

-- ---- the first word

spaceless : (word : List ℕ) → ((i : ℕ) → i < length word → get_or word i 0 ≢ 0x20) → IsSpaceless word
spaceless word h = recursion_from_All (λ b. is_space b ≡ false) word (All-from_get_or (λ b. is_space b ≡ false) word 0 (λ i low. ne_eqb (get_or word i 0) 0x20 (h i low)))

pub cut_found : (text : List ℕ) (word rest : Bor (List ℕ)) → IsSplitOnceResult 0x20 text (Some (word, rest)) → cut text ≡ (word.now, Some rest.now)
cut_found text word rest h =
    let parts = split_parts 0x20 text (Some (word, rest)) h (lit< tt) in
    ap cut parts.0 ∙ cut_at word.now rest.now (spaceless word.now parts.1)

pub cut_missing : (text : List ℕ) → IsSplitOnceResult 0x20 text None → cut text ≡ (text, None)
cut_missing text h = cut_none text (spaceless text (split_parts 0x20 text None h (lit< tt)))

-- ---- numbers

abbrev is_ok : {A E : Type 0} → Result A E → Bool
is_ok (Ok x) = true
is_ok (Err e) = false

-- a number that isn't read has more than 64 bits
pub no_number : {E : Type 0} (word : List ℕ) (r : Result ℕ E) (e : E) → ParsesUnsigned 64 10 word r → is_number word ≡ true → r ≡ Err e → number_of word ≡ None
no_number word r e h is failed =
    let parts = and_parts (begins_well word) (list_all is_ascii_digit word) is in
    let some = (well_begun word parts.0).0 in
    elim (cases_lt (digits_value 10 word) (2 ^ 64)) [
      | inl low ↦ absurd (true≢false (sym (ap is_ok (parse_gives digit_texts 64 word r h parts.1 some low)) ∙ ap is_ok failed))
      | inr high ↦
          let none : (is_number word && ltb (digits_value 10 word) (2 ^ 64)) ≡ false = and_right _ _ (le-ltb (digits_value 10 word) (2 ^ 64) high) in
          rw none refl
    ]

-- ---- texts

pub name_read : (word text bytes name : List ℕ) → text ≡ word → unescaped text ≡ Some bytes → name ≡ bytes → IsUtf8 name → name_of word ≡ Some name
name_read word text bytes name same e is u =
    let read : unescaped word ≡ Some name = ap unescaped (sym same) ∙ e ∙ ap Some (sym is) in
    rw (read, is_utf8-from_IsUtf8 name u) refl

pub no_name : (word text bytes : List ℕ) → text ≡ word → unescaped text ≡ Some bytes → (IsUtf8 bytes → ⊥) → name_of word ≡ None
no_name word text bytes same e other =
    let read : unescaped word ≡ Some bytes = ap unescaped (sym same) ∙ e in
    let not_utf8 : is_utf8 bytes ≡ false = false_from_ne_true (is_utf8 bytes) (λ t. other (IsUtf8-from_is_utf8 bytes t)) in
    rw (read, not_utf8) refl

by_line : (text : List ℕ) (read : Option Line) → line_of text ≡ read → (IsUtf8 text → ⊥) → line_of text ≡ None
by_line text None e other = e
by_line text (Some line) e other = absurd (other (line_utf8 text line e))

pub no_line : (text : List ℕ) → (IsUtf8 text → ⊥) → line_of text ≡ None
no_line text other = by_line text (line_of text) refl other

-- ---- words that name nothing

pub no_end : (word rest : List ℕ) → word ≢ codes "exit" → word ≢ codes "trap" → end_by word (Some rest) ≡ None
no_end word rest exit trap = rw (bytes_differ word (codes "exit") exit, bytes_differ word (codes "trap") trap) refl
