-- A line that is printed is read again.
use Rattle.std.proofs.Common.{◌≡◌, ℕ, ◌^◌, ◌<◌, List, [], ◌∷◌, ◌++◌, map, codes, decimal, Option, Some, refl, ap, ◌∙◌, arith, append-nil}
use Rattle.std.specs.List.{AllByRecursion}
use Rattle.std.proofs.lemmas.List.Elements.{recursion_from_All}
use Rattle.spec_hosts.specs.spec_binary.Options.{◌>>=◌}
use Rattle.spec_hosts.specs.wasm_form.declared.runtime.Write.{Write}
use Rattle.spec_hosts.specs.wasm_form.declared.runtime.Trap.{Trap}
use Rattle.spec_hosts.specs.wasm_form.declared.runtime.Trap.TheVariants as trap
use Rattle.dyl_print.specs.Printed.{bytes_word, escaped, trap_text, end_word}
use Rattle.spec_traces.specs.declared.trace.TraceEnd.{TraceEnd}
use Rattle.spec_traces.specs.declared.trace.TraceEnd.TheVariants as end
use Rattle.spec_traces.specs.declared.line.CallHead.{CallHead}
use Rattle.spec_traces.specs.declared.line.Line.{Line}
use Rattle.spec_traces.specs.declared.line.Line.TheVariants.{Header, Call, Put, Reply, Exit, End}
use Rattle.spec_traces.specs.Texts.{run_end, spaced, IsWriteInRange, IsEndInRange}
use Rattle.spec_traces.specs.Lines.{line_text, IsHeadInRange, IsLineInRange}
use Rattle.spec_traces.specs.Reading.{trap_of, end_of, read_ending, read_call, read_put, read_reply, read_exit, read_end, line_by, line_of}
use Rattle.spec_traces.proofs.Seen.{IsWord, IsOnLine, IsPlain, each-append, each-weaker, each-map, seen_by_test, plain_by_test, decimal_seen, bytes_seen, escaped_seen, word_plain, spaced_plain}
use Rattle.spec_traces.proofs.Spaces.{cut_word, cut_spaced, behind, words_again}
use Rattle.spec_traces.proofs.WordsAgain.{below_again, numbers_again, bytes_again}
use Rattle.spec_traces.proofs.NamesAgain.{name_again}

-- ---- the words of lines

abbrev call_words : CallHead → List (List ℕ)
call_words head = decimal head.steps ∷ escaped head.«module» ∷ escaped head.name ∷ map decimal head.args

abbrev put_words : Write → List (List ℕ)
put_words write = decimal write.at ∷ bytes_word write.bytes ∷ []

abbrev end_words : ℕ → TraceEnd → List (List ℕ)
end_words steps how = decimal steps ∷ end_word (run_end how) ∷ []

numbers_seen : (ns : List ℕ) → AllByRecursion (λ n. n < 2 ^ 64) ns → AllByRecursion IsWord (map decimal ns)
numbers_seen ns a = each-map IsWord decimal (λ n. n < 2 ^ 64) decimal_seen ns a

module _ (head : CallHead) (range : IsHeadInRange head) where
  args_are : AllByRecursion (λ n. n < 2 ^ 64) head.args
  args_are = recursion_from_All (λ n. n < 2 ^ 64) head.args range.args

  call_seen : AllByRecursion IsWord (call_words head)
  call_seen =
      let steps : head.steps < 2 ^ 64 = omega (arith, range.steps) in
      (decimal_seen head.steps steps, (escaped_seen head.«module», (escaped_seen head.name, numbers_seen head.args args_are)))

  call_again : read_call (call_words head) ≡ Some (Call head)
  unfolding read_call
  call_again =
      rw (below_again (2 ^ 63) head.steps (omega arith) range.steps, name_again head.«module» range.from, name_again head.name range.name, numbers_again head.args args_are) refl

module _ (write : Write) (range : IsWriteInRange write) where
  write_seen : AllByRecursion IsWord (put_words write)
  write_seen =
      let at : write.at < 2 ^ 64 = omega (arith, range.0) in
      (decimal_seen write.at at, (bytes_seen write.bytes, tt))

  write_again : read_put (put_words write) ≡ Some (Put write)
  unfolding read_put
  write_again =
      rw (below_again (2 ^ 32) write.at (omega arith) range.0, bytes_again write.bytes (recursion_from_All (λ b. b < 256) write.bytes range.1)) refl

module _ (code : ℕ) (range : code < 2 ^ 32) where
  code_seen : AllByRecursion IsWord (decimal code ∷ [])
  code_seen = let wide : code < 2 ^ 64 = omega arith in (decimal_seen code wide, tt)

  code_again : read_exit (decimal code ∷ []) ≡ Some (Exit code)
  unfolding read_exit
  code_again = rw (below_again (2 ^ 32) code (omega arith) range) refl

module _ (results : List ℕ) (range : AllByRecursion (λ n. n < 2 ^ 64) results) where
  results_again : read_reply (map decimal results) ≡ Some (Reply results)
  unfolding read_reply
  results_again = rw (numbers_again results range) refl

-- ---- ends

cause_again : (why : Trap) → trap_of (trap_text why) ≡ Some why
cause_again trap.Unreachable = refl
cause_again trap.MemoryBounds = refl
cause_again trap.TableBounds = refl
cause_again trap.NullEntry = refl
cause_again trap.WrongType = refl
cause_again trap.DivideByZero = refl
cause_again trap.Overflow = refl

how_again : (how : TraceEnd) → IsEndInRange how → end_of (end_word (run_end how)) ≡ Some how
unfolding end_of
how_again end.Return range = refl
how_again (end.Exit code) range = rw (below_again (2 ^ 32) code (omega arith) range) refl
how_again (end.Trap why) range = ap (λ (o : Option Trap). o >>= λ t. Some (end.Trap t)) (cause_again why)
how_again end.StepLimit range = refl
how_again end.DepthLimit range = refl
how_again end.HostCallLimit range = refl

end_again : (steps : ℕ) (how : TraceEnd) → steps < 2 ^ 63 → IsEndInRange how → read_end (decimal steps ++ spaced (end_word (run_end how) ∷ [])) ≡ Some (End steps how)
unfolding read_end
end_again steps how low range =
    let wide : steps < 2 ^ 64 = omega arith in
    ap (λ (p : List ℕ × Option (List ℕ)). read_ending p.0 p.1) (cut_word (decimal steps) (end_word (run_end how) ++ []) (decimal_seen steps wide))
    ∙ ap (λ text. read_ending (decimal steps) (Some text)) (append-nil (end_word (run_end how)))
    ∙ rw (below_again (2 ^ 63) steps (omega arith) low, how_again how range) refl

-- ---- lines

line_words : (word : List ℕ) (words : List (List ℕ)) → IsWord word → line_of (word ++ spaced words) ≡ line_by word (behind words)
unfolding line_of
line_words word words seen = ap (λ (p : List ℕ × Option (List ℕ)). line_by p.0 p.1) (cut_spaced word words seen)

pub read_again : (line : Line) → IsLineInRange line → line_of (line_text line) ≡ Some line
unfolding line_of
read_again Header range = refl
read_again (Call head) range = line_words (codes "call") (call_words head) (seen_by_test (codes "call") refl) ∙ ap read_call (words_again (call_words head) (call_seen head range)) ∙ call_again head range
read_again (Put write) range = line_words (codes "put") (put_words write) (seen_by_test (codes "put") refl) ∙ ap read_put (words_again (put_words write) (write_seen write range)) ∙ write_again write range
read_again (Reply results) range =
    let each = recursion_from_All (λ n. n < 2 ^ 64) results range in
    line_words (codes "reply") (map decimal results) (seen_by_test (codes "reply") refl) ∙ ap read_reply (words_again (map decimal results) (numbers_seen results each)) ∙ results_again results each
read_again (Exit code) range = line_words (codes "exit") (decimal code ∷ []) (seen_by_test (codes "exit") refl) ∙ ap read_exit (words_again (decimal code ∷ []) (code_seen code range)) ∙ code_again code range
read_again (End steps how) range = line_words (codes "end") (end_words steps how) (seen_by_test (codes "end") refl) ∙ end_again steps how range.0 range.1

-- ---- the bytes of lines

words_plain : (word : List ℕ) (words : List (List ℕ)) → IsWord word → AllByRecursion IsWord words → IsPlain (word ++ spaced words)
words_plain word words first others = each-append IsOnLine word (spaced words) (word_plain word first) (spaced_plain words (each-weaker IsWord IsPlain word_plain words others))

trap_plain : (why : Trap) → IsPlain (codes "trap " ++ trap_text why)
trap_plain trap.Unreachable = plain_by_test (codes "trap unreachable") refl
trap_plain trap.MemoryBounds = plain_by_test (codes "trap memory bounds") refl
trap_plain trap.TableBounds = plain_by_test (codes "trap table bounds") refl
trap_plain trap.NullEntry = plain_by_test (codes "trap null entry") refl
trap_plain trap.WrongType = plain_by_test (codes "trap wrong type") refl
trap_plain trap.DivideByZero = plain_by_test (codes "trap divide by zero") refl
trap_plain trap.Overflow = plain_by_test (codes "trap overflow") refl

how_plain : (how : TraceEnd) → IsEndInRange how → IsPlain (end_word (run_end how))
how_plain end.Return range = plain_by_test (codes "return") refl
how_plain (end.Exit code) range =
    let wide : code < 2 ^ 64 = omega arith in
    each-append IsOnLine (codes "exit ") (decimal code) (plain_by_test (codes "exit ") refl) (word_plain (decimal code) (decimal_seen code wide))
how_plain (end.Trap why) range = trap_plain why
how_plain end.StepLimit range = plain_by_test (codes "steplimit") refl
how_plain end.DepthLimit range = plain_by_test (codes "depthlimit") refl
how_plain end.HostCallLimit range = plain_by_test (codes "hostcalllimit") refl

end_plain : (steps : ℕ) (how : TraceEnd) → steps < 2 ^ 63 → IsEndInRange how → IsPlain (line_text (End steps how))
end_plain steps how low range =
    let wide : steps < 2 ^ 64 = omega arith in
    each-append IsOnLine (codes "end") (spaced (end_words steps how)) (plain_by_test (codes "end") refl)
    (spaced_plain (end_words steps how) (word_plain (decimal steps) (decimal_seen steps wide), (how_plain how range, tt)))

pub text_plain : (line : Line) → IsLineInRange line → IsPlain (line_text line)
text_plain Header range = plain_by_test (codes "trace 1") refl
text_plain (Call head) range = words_plain (codes "call") (call_words head) (seen_by_test (codes "call") refl) (call_seen head range)
text_plain (Put write) range = words_plain (codes "put") (put_words write) (seen_by_test (codes "put") refl) (write_seen write range)
text_plain (Reply results) range = words_plain (codes "reply") (map decimal results) (seen_by_test (codes "reply") refl) (numbers_seen results (recursion_from_All (λ n. n < 2 ^ 64) results range))
text_plain (Exit code) range = words_plain (codes "exit") (decimal code ∷ []) (seen_by_test (codes "exit") refl) (code_seen code range)
text_plain (End steps how) range = end_plain steps how range.0 range.1
