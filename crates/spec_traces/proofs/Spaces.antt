-- Words that are put together with spaces, and lines with their ends, come apart again.
use Rattle.std.proofs.Common.{◌≡◌, ℕ, false, eqb, List, [], ◌∷◌, ◌++◌, Option, Some, None, refl, ap, ◌∙◌, arith, ne_eqb, append-nil, append_assoc}
use Rattle.std.specs.List.{AllByRecursion, slice_split}
use Rattle.std.proofs.lemmas.List.Elements.{All-from_recursion}
use Rattle.std.proofs.lemmas.List.Splits.{slice_split_none, slice_split_at}
use Rattle.spec_traces.specs.Texts.{spaced, line_feed, lines_of}
use Rattle.spec_traces.specs.Lines.{text_of}
use Rattle.spec_traces.specs.Reading.{is_space, cut, words_of}
use Rattle.spec_traces.proofs.Seen.{IsSeen, IsWord, IsPlain, each-weaker}

-- ---- words

-- no byte is a space
abbrev pub IsSpaceless : List ℕ → Type 0
IsSpaceless word = AllByRecursion (λ b. is_space b ≡ false) word

spaceless : (word : List ℕ) → IsWord word → IsSpaceless word
spaceless word a = each-weaker IsSeen (λ b. is_space b ≡ false) (λ b s. ne_eqb b 0x20 (λ e. omega (arith, s.0, e))) word a

pub cut_at : (word rest : List ℕ) → IsSpaceless word → cut (word ++ 0x20 ∷ rest) ≡ (word, Some rest)
cut_at [] rest a = refl
cut_at (b ∷ word) rest a = rw (a.0, cut_at word rest a.1) refl

pub cut_none : (word : List ℕ) → IsSpaceless word → cut word ≡ (word, None)
cut_none [] a = refl
cut_none (b ∷ word) a = rw (a.0, cut_none word a.1) refl

pub cut_word : (word rest : List ℕ) → IsWord word → cut (word ++ 0x20 ∷ rest) ≡ (word, Some rest)
cut_word word rest a = cut_at word rest (spaceless word a)

-- what stands behind the space in front of the first of these words
abbrev pub behind : List (List ℕ) → Option (List ℕ)
behind [] = None
behind (word ∷ words) = Some (word ++ spaced words)

pub cut_spaced : (word : List ℕ) (words : List (List ℕ)) → IsWord word → cut (word ++ spaced words) ≡ (word, behind words)
cut_spaced word [] a = ap cut (append-nil word) ∙ cut_none word (spaceless word a)
cut_spaced word (next ∷ words) a = cut_word word (next ++ spaced words) a

split_again : (word : List ℕ) (words : List (List ℕ)) → IsWord word → AllByRecursion IsWord words → slice_split is_space (word ++ spaced words) ≡ word ∷ words
split_again word [] a b = ap (slice_split is_space) (append-nil word) ∙ slice_split_none is_space word (All-from_recursion (λ b. is_space b ≡ false) word (spaceless word a))
split_again word (next ∷ words) a b =
    slice_split_at is_space word 0x20 (next ++ spaced words) (All-from_recursion (λ b. is_space b ≡ false) word (spaceless word a)) refl
    ∙ ap (λ (l : List (List ℕ)). word ∷ l) (split_again next words b.0 b.1)

pub words_again : (words : List (List ℕ)) → AllByRecursion IsWord words → words_of (behind words) ≡ words
words_again [] a = refl
words_again (word ∷ words) a = split_again word words a.0 a.1

-- ---- lines

pub line_again : (line rest : List ℕ) → IsPlain line → lines_of (line ++ line_feed ∷ rest) ≡ line ∷ lines_of rest
line_again [] rest a = refl
line_again (b ∷ line) rest a =
    let e : eqb b line_feed ≡ false = ne_eqb b line_feed (λ e. omega (arith, a.0, e)) in
    rw (e, line_again line rest a.1) refl

pub lines_again : (lines : List (List ℕ)) → AllByRecursion IsPlain lines → lines_of (text_of lines) ≡ lines
lines_again [] a = refl
lines_again (line ∷ lines) a =
    ap lines_of (append_assoc line (line_feed ∷ []) (text_of lines)) ∙ line_again line (text_of lines) a.0
    ∙ ap (λ (l : List (List ℕ)). line ∷ l) (lines_again lines a.1)
