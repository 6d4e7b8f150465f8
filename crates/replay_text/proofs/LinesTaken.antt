-- Lines that are read were printed so.
use Rattle.std.proofs.Common.{◌≡◌, ℕ, ◌^◌, ◌<◌, true, List, [], ◌∷◌, ◌++◌, length, map, codes, decimal, IsUtf8, IsAscii, bytes_eq, zero, suc, Option, Some, None, sym, ap, ap₂, ◌∙◌, subst, arith, inl, inr, append-nil}
use Rattle.std.proofs.lemmas.List.Elements.{All-from_recursion}
use Rattle.std.proofs.lemmas.Str.{IsUtf8-from_ascii}
use Rattle.spec_traces.specs.spec_hosts.wasm_form.declared.runtime.Trap.{Trap}
use Rattle.dyl_print.specs.Printed.{bytes_word, escaped, trap_text, end_word}
use Rattle.spec_traces.specs.declared.trace.TraceEnd.{TraceEnd}
use Rattle.spec_traces.specs.declared.trace.TraceEnd.TheVariants as end
use Rattle.spec_traces.specs.declared.line.Line.{Line}
use Rattle.spec_traces.specs.declared.line.Line.TheVariants.{Header, Call, Put, Reply, Exit, End}
use Rattle.spec_traces.specs.Texts.{run_end, spaced, IsEndInRange}
use Rattle.spec_traces.specs.Lines.{line_text, IsLineInRange}
use Rattle.spec_traces.specs.Reading.{cut, words_of, traps, trap_of, plain_ends, end_by, end_of, number_below, name_of, numbers_of, bytes_of, read_header, read_call, read_put, read_reply, read_exit, read_ending, read_end, has_words, words_line, text_line, line_by, line_of}
use Rattle.spec_traces.proofs.of_spec_binary.Options.{went_on}
use Rattle.spec_traces.proofs.Seen.{IsPlain}
use Rattle.spec_traces.proofs.LinesAgain.{text_plain}
use Rattle.replay_text.proofs.WordsTaken.{chosen, either, some_is, same_text, joined, cut_taken, words_taken, named_taken, below_taken, numbers_taken, bytes_taken, name_taken}

-- what was read is in range, and the text is that of it
abbrev Told : List ℕ → Line → Type 0
Told text line = (text ≡ line_text line) × IsLineInRange line

-- ---- ends

trap_taken : (text : List ℕ) (why : Trap) → trap_of text ≡ Some why → text ≡ trap_text why
trap_taken text why e = (named_taken trap_text (λ t. Unit {0}) traps text why (tt, (tt, (tt, (tt, (tt, (tt, (tt, tt))))))) e).0

abbrev ToldEnd : List ℕ → TraceEnd → Type 0
ToldEnd text how = (text ≡ end_word (run_end how)) × IsEndInRange how

end_by_taken : (word : List ℕ) (rest : Option (List ℕ)) (how : TraceEnd) → end_by word rest ≡ Some how → ToldEnd (joined word rest) how
end_by_taken word None how e = named_taken (λ how. end_word (run_end how)) IsEndInRange plain_ends word how (tt, (tt, (tt, (tt, tt)))) e
end_by_taken word (Some rest) how e = elim (either (bytes_eq word (codes "exit")) _ _ how e) [
  | inl exit ↦
      let code = went_on (number_below (2 ^ 32) rest) _ how exit.1 in
      let read = below_taken (2 ^ 32) rest code.0 code.1 in
      subst (ToldEnd (word ++ 0x20 ∷ rest)) (some_is (end.Exit code.0) how code.2)
      (ap₂ (λ (w r : List ℕ). w ++ 0x20 ∷ r) (same_text word (codes "exit") exit.0) read.0, read.1)
  | inr further ↦
      let trap = chosen (bytes_eq word (codes "trap")) _ how further.1 in
      let why = went_on (trap_of rest) _ how trap.1 in
      subst (ToldEnd (word ++ 0x20 ∷ rest)) (some_is (end.Trap why.0) how why.2)
      (ap₂ (λ (w r : List ℕ). w ++ 0x20 ∷ r) (same_text word (codes "trap") trap.0) (trap_taken rest why.0 why.1), tt)
]

end_of_taken : (text : List ℕ) (how : TraceEnd) → end_of text ≡ Some how → ToldEnd text how
unfolding end_of
end_of_taken text how e = subst (λ t. ToldEnd t how) (cut_taken text) (end_by_taken (cut text).0 (cut text).1 how e)

-- ---- lines by their words

call_taken : (words : List (List ℕ)) (line : Line) → read_call words ≡ Some line → Told (codes "call" ++ spaced words) line
unfolding read_call
call_taken [] line e = absurd cc
call_taken (steps ∷ []) line e = absurd cc
call_taken (steps ∷ from ∷ []) line e = absurd cc
call_taken (steps ∷ from ∷ name ∷ args) line e =
    let n = went_on (number_below (2 ^ 63) steps) _ line e in
    let m = went_on (name_of from) _ line n.2 in
    let f = went_on (name_of name) _ line m.2 in
    let ns = went_on (numbers_of args) _ line f.2 in
    let first = below_taken (2 ^ 63) steps n.0 n.1 in
    let second = name_taken from m.0 m.1 in
    let third = name_taken name f.0 f.1 in
    let others = numbers_taken args ns.0 ns.1 in
    let words_are : steps ∷ from ∷ name ∷ args ≡ decimal n.0 ∷ escaped m.0 ∷ escaped f.0 ∷ map decimal ns.0 =
    ap₂ (λ (w : List ℕ) (ws : List (List ℕ)). w ∷ ws) first.0
    (ap₂ (λ (w : List ℕ) (ws : List (List ℕ)). w ∷ ws) second.0 (ap₂ (λ (w : List ℕ) (ws : List (List ℕ)). w ∷ ws) third.0 others.0)) in
    subst (Told (codes "call" ++ spaced (steps ∷ from ∷ name ∷ args))) (some_is (Call (record { steps = n.0; «module» = m.0; name = f.0; args = ns.0 })) line ns.2)
    (ap (λ ws. codes "call" ++ spaced ws) words_are, record { steps = first.1; from = second.1; name = third.1; args = All-from_recursion (λ n. n < 2 ^ 64) ns.0 others.1 })

put_taken : (words : List (List ℕ)) (line : Line) → read_put words ≡ Some line → Told (codes "put" ++ spaced words) line
unfolding read_put
put_taken [] line e = absurd cc
put_taken (at ∷ []) line e = absurd cc
put_taken (at ∷ word ∷ []) line e =
    let n = went_on (number_below (2 ^ 32) at) _ line e in
    let bytes = went_on (bytes_of word) _ line n.2 in
    let first = below_taken (2 ^ 32) at n.0 n.1 in
    let second = bytes_taken word bytes.0 bytes.1 in
    let words_are : at ∷ word ∷ [] ≡ decimal n.0 ∷ bytes_word bytes.0 ∷ [] = ap₂ (λ (a w : List ℕ). a ∷ w ∷ []) first.0 second.0 in
    subst (Told (codes "put" ++ spaced (at ∷ word ∷ []))) (some_is (Put (record { at = n.0; bytes = bytes.0 })) line bytes.2)
    (ap (λ ws. codes "put" ++ spaced ws) words_are, (first.1, All-from_recursion (λ b. b < 256) bytes.0 second.1))
put_taken (at ∷ word ∷ more ∷ words) line e = absurd cc

reply_taken : (words : List (List ℕ)) (line : Line) → read_reply words ≡ Some line → Told (codes "reply" ++ spaced words) line
unfolding read_reply
reply_taken words line e =
    let ns = went_on (numbers_of words) _ line e in
    let read = numbers_taken words ns.0 ns.1 in
    subst (Told (codes "reply" ++ spaced words)) (some_is (Reply ns.0) line ns.2)
    (ap (λ ws. codes "reply" ++ spaced ws) read.0, All-from_recursion (λ n. n < 2 ^ 64) ns.0 read.1)

exit_taken : (words : List (List ℕ)) (line : Line) → read_exit words ≡ Some line → Told (codes "exit" ++ spaced words) line
unfolding read_exit
exit_taken [] line e = absurd cc
exit_taken (code ∷ []) line e =
    let n = went_on (number_below (2 ^ 32) code) _ line e in
    let read = below_taken (2 ^ 32) code n.0 n.1 in
    subst (Told (codes "exit" ++ spaced (code ∷ []))) (some_is (Exit n.0) line n.2) (ap (λ w. codes "exit" ++ spaced (w ∷ [])) read.0, read.1)
exit_taken (code ∷ more ∷ words) line e = absurd cc

ending_taken : (steps : List ℕ) (rest : Option (List ℕ)) (line : Line) → read_ending steps rest ≡ Some line → Told (codes "end" ++ 0x20 ∷ joined steps rest) line
ending_taken steps None line e = absurd cc
ending_taken steps (Some text) line e =
    let n = went_on (number_below (2 ^ 63) steps) _ line e in
    let how = went_on (end_of text) _ line n.2 in
    let first = below_taken (2 ^ 63) steps n.0 n.1 in
    let second = end_of_taken text how.0 how.1 in
    subst (Told (codes "end" ++ 0x20 ∷ (steps ++ 0x20 ∷ text))) (some_is (End n.0 how.0) line how.2)
    (ap₂ (λ (s t : List ℕ). codes "end" ++ 0x20 ∷ (s ++ 0x20 ∷ t)) first.0 (second.0 ∙ sym (append-nil (end_word (run_end how.0)))), (first.1, second.1))

end_taken : (text : List ℕ) (line : Line) → read_end text ≡ Some line → Told (codes "end" ++ 0x20 ∷ text) line
unfolding read_end
end_taken text line e = subst (λ t. Told (codes "end" ++ 0x20 ∷ t) line) (cut_taken text) (ending_taken (cut text).0 (cut text).1 line e)

header_taken : (text : List ℕ) (line : Line) → read_header text ≡ Some line → Told (codes "trace" ++ 0x20 ∷ text) line
header_taken text line e =
    let found = chosen (bytes_eq text (codes "1")) (Some Header) line e in
    subst (Told (codes "trace" ++ 0x20 ∷ text)) (some_is Header line found.1) (ap (λ (t : List ℕ). codes "trace" ++ 0x20 ∷ t) (same_text text (codes "1") found.0), tt)

-- ---- lines

-- a line whose first word is known
named_line : (word name : List ℕ) (rest : Option (List ℕ)) (line : Line) → bytes_eq word name ≡ true → Told (joined name rest) line → Told (joined word rest) line
named_line word name rest line same told = subst (λ t. Told t line) (sym (ap (λ w. joined w rest) (same_text word name same))) told

with_words : (word name : List ℕ) (rest : Option (List ℕ)) (line : Line) → bytes_eq word name ≡ true → Told (name ++ spaced (words_of rest)) line → Told (joined word rest) line
with_words word name rest line same told = named_line word name rest line same (subst (λ t. Told t line) (sym (words_taken name rest)) told)

words_line_taken : (word : List ℕ) (rest : Option (List ℕ)) (line : Line) → words_line word (words_of rest) ≡ Some line → Told (joined word rest) line
words_line_taken word rest line e = elim (either (bytes_eq word (codes "call")) _ _ line e) [
  | inl call ↦ with_words word (codes "call") rest line call.0 (call_taken (words_of rest) line call.1)
  | inr e2 ↦ elim (either (bytes_eq word (codes "put")) _ _ line e2.1) [
    | inl put ↦ with_words word (codes "put") rest line put.0 (put_taken (words_of rest) line put.1)
    | inr e3 ↦ elim (either (bytes_eq word (codes "reply")) _ _ line e3.1) [
      | inl reply ↦ with_words word (codes "reply") rest line reply.0 (reply_taken (words_of rest) line reply.1)
      | inr e4 ↦
          let exit = chosen (bytes_eq word (codes "exit")) _ line e4.1 in
          with_words word (codes "exit") rest line exit.0 (exit_taken (words_of rest) line exit.1)
    ]
  ]
]

text_line_taken : (word : List ℕ) (rest : Option (List ℕ)) (line : Line) → text_line word rest ≡ Some line → Told (joined word rest) line
text_line_taken word None line e = absurd cc
text_line_taken word (Some text) line e = elim (either (bytes_eq word (codes "end")) _ _ line e) [
  | inl ended ↦ named_line word (codes "end") (Some text) line ended.0 (end_taken text line ended.1)
  | inr e2 ↦
      let header = chosen (bytes_eq word (codes "trace")) _ line e2.1 in
      named_line word (codes "trace") (Some text) line header.0 (header_taken text line header.1)
]

line_by_taken : (word : List ℕ) (rest : Option (List ℕ)) (line : Line) → line_by word rest ≡ Some line → Told (joined word rest) line
line_by_taken word rest line e = elim (either (has_words word) _ _ line e) [
  | inl words ↦ words_line_taken word rest line words.1
  | inr text ↦ text_line_taken word rest line text.1
]

pub line_taken : (text : List ℕ) (line : Line) → line_of text ≡ Some line → (text ≡ line_text line) × IsLineInRange line
unfolding line_of
line_taken text line e = subst (λ t. Told t line) (cut_taken text) (line_by_taken (cut text).0 (cut text).1 line e)

-- a line that is read isn't empty, and is ASCII

pub some_line : (text : List ℕ) (line : Line) → line_of text ≡ Some line → 0 < length text
unfolding line_of
some_line [] line e = absurd cc
some_line (b ∷ text) line e = omega arith

plain_ascii : (text : List ℕ) → IsPlain text → IsAscii text
plain_ascii [] a i = omega arith
plain_ascii (b ∷ text) a zero = a.0.1
plain_ascii (b ∷ text) a (suc i) = plain_ascii text a.1 i

pub line_utf8 : (text : List ℕ) (line : Line) → line_of text ≡ Some line → IsUtf8 text
line_utf8 text line e =
    let read = line_taken text line e in
    IsUtf8-from_ascii text (plain_ascii text (subst IsPlain (sym read.0) (text_plain line read.1)))
