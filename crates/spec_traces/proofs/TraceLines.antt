-- The lines of a trace: their text is that of the trace, they are in range where it is, and they are those of one trace.
use Rattle.std.proofs.Common.{◌≡◌, ℕ, List, [], ◌∷◌, ◌++◌, map, flat_map, codes, Option, Some, refl, sym, ap, ap₂, ◌∙◌, subst, append_assoc}
use Rattle.std.specs.List.{AllByRecursion}
use Rattle.std.proofs.lemmas.List.{map-append}
use Rattle.std.proofs.lemmas.List.Elements.{recursion_from_All}
use Rattle.spec_hosts.specs.wasm_form.declared.runtime.Answer.{Answer}
use Rattle.spec_hosts.specs.wasm_form.declared.runtime.Answer.TheVariants as answer
use Rattle.spec_hosts.specs.wasm_form.declared.runtime.Write.{Write}
use Rattle.spec_traces.specs.declared.trace.Trace.{Trace}
use Rattle.spec_traces.specs.declared.trace.TraceCall.{TraceCall}
use Rattle.spec_traces.specs.declared.trace.TraceEnd.{TraceEnd}
use Rattle.spec_traces.specs.declared.line.Line.{Line}
use Rattle.spec_traces.specs.declared.line.Line.TheVariants.{Put, Reply, Exit, End}
use Rattle.spec_traces.specs.Texts.{put_line, answer_lines, call_line, call_lines, end_line, trace_lines, trace_text, lines_of, IsWriteInRange, IsAnswerInRange, IsCallInRange, IsInRange}
use Rattle.spec_traces.specs.Lines.{line_text, head_of, answer_as_lines, call_as_lines, trace_as_lines, IsLineInRange}
use Rattle.spec_traces.specs.Reading.{line_of}
use Rattle.spec_traces.proofs.Seen.{IsPlain, each-append, each-map}
use Rattle.spec_traces.proofs.Spaces.{lines_again}
use Rattle.spec_traces.proofs.LinesAgain.{read_again, text_plain}

-- ---- their text

puts_are : (writes : List Write) → map line_text (map Put writes) ≡ map put_line writes
puts_are [] = refl
puts_are (w ∷ writes) = ap (λ (l : List (List ℕ)). put_line w ∷ l) (puts_are writes)

answer_is : (a : Answer) → map line_text (answer_as_lines a) ≡ answer_lines a
answer_is (answer.Reply results writes) = map-append line_text (map Put writes) (Reply results ∷ []) ∙ ap (λ (l : List (List ℕ)). l ++ line_text (Reply results) ∷ []) (puts_are writes)
answer_is (answer.Exit code) = refl

call_is : (c : TraceCall) → map line_text (call_as_lines c) ≡ call_lines c
call_is c = ap (λ (l : List (List ℕ)). call_line c ∷ l) (answer_is c.answer)

calls_are : (calls : List TraceCall) → map line_text (flat_map call_as_lines calls) ≡ flat_map call_lines calls
calls_are [] = refl
calls_are (c ∷ calls) = map-append line_text (call_as_lines c) (flat_map call_as_lines calls) ∙ ap₂ (λ (l m : List (List ℕ)). l ++ m) (call_is c) (calls_are calls)

pub lines_are : (t : Trace) → map line_text (trace_as_lines t) ≡ trace_lines t
lines_are t = ap (λ (l : List (List ℕ)). codes "trace 1" ∷ l)
    (map-append line_text (flat_map call_as_lines t.calls) (End t.steps t.end ∷ []) ∙ ap (λ (l : List (List ℕ)). l ++ end_line t ∷ []) (calls_are t.calls))

-- ---- their range

answer_in_range : (a : Answer) → IsAnswerInRange a → AllByRecursion IsLineInRange (answer_as_lines a)
answer_in_range (answer.Reply results writes) range =
    each-append IsLineInRange (map Put writes) (Reply results ∷ []) (each-map IsLineInRange Put IsWriteInRange (λ w h. h) writes (recursion_from_All IsWriteInRange writes range.1)) (range.0, tt)
answer_in_range (answer.Exit code) range = (range, tt)

call_in_range : (c : TraceCall) → IsCallInRange c → AllByRecursion IsLineInRange (call_as_lines c)
call_in_range c range = (record { steps = range.steps; from = range.from; name = range.name; args = range.args }, answer_in_range c.answer range.answer)

calls_in_range : (calls : List TraceCall) → AllByRecursion IsCallInRange calls → AllByRecursion IsLineInRange (flat_map call_as_lines calls)
calls_in_range [] range = tt
calls_in_range (c ∷ calls) range = each-append IsLineInRange (call_as_lines c) (flat_map call_as_lines calls) (call_in_range c range.0) (calls_in_range calls range.1)

pub lines_in_range : (t : Trace) → IsInRange t → AllByRecursion IsLineInRange (trace_as_lines t)
lines_in_range t range =
    (tt, each-append IsLineInRange (flat_map call_as_lines t.calls) (End t.steps t.end ∷ []) (calls_in_range t.calls (recursion_from_All IsCallInRange t.calls range.calls)) ((range.steps, range.end_is), tt))

-- ---- the lines of a text

module _ (lines : List Line) (range : AllByRecursion IsLineInRange lines) where
  pub texts_plain : AllByRecursion IsPlain (map line_text lines)
  texts_plain = each-map IsPlain line_text IsLineInRange text_plain lines range

pub text_lines : (t : Trace) → IsInRange t → lines_of (trace_text t) ≡ trace_lines t
text_lines t range = lines_again (trace_lines t) (subst (λ (l : List (List ℕ)). AllByRecursion IsPlain l) (lines_are t) (texts_plain (trace_as_lines t) (lines_in_range t range)))

-- what lines say, where they are read
all_read : (lines : List Line) → AllByRecursion IsLineInRange lines → map line_of (map line_text lines) ≡ map Some lines
all_read [] range = refl
all_read (line ∷ lines) range = ap₂ (λ (o : Option Line) (os : List (Option Line)). o ∷ os) (read_again line range.0) (all_read lines range.1)

all_some : (xs ys : List Line) → map Some xs ≡ map Some ys → xs ≡ ys
all_some [] [] e = refl
all_some [] (y ∷ ys) e = absurd cc
all_some (x ∷ xs) [] e = absurd cc
all_some (x ∷ xs) (y ∷ ys) e =
    let first : x ≡ y = cc in
    let others : map Some xs ≡ map Some ys = cc in
    ap₂ (λ (z : Line) (zs : List Line). z ∷ zs) first (all_some xs ys others)

one_list : (xs ys : List Line) → AllByRecursion IsLineInRange xs → AllByRecursion IsLineInRange ys → map line_text xs ≡ map line_text ys → xs ≡ ys
one_list xs ys a b e = all_some xs ys (sym (all_read xs a) ∙ ap (map line_of) e ∙ all_read ys b)

-- ---- one trace

abbrev SameAnswer : Answer → Answer → List Line → List Line → Type 0
SameAnswer a b xs ys = (a ≡ b) × (xs ≡ ys)

-- the writes and results of a call
same_reply : (rs qs : List ℕ) (ws vs : List Write) (xs ys : List Line) → (map Put ws ++ Reply rs ∷ []) ++ xs ≡ (map Put vs ++ Reply qs ∷ []) ++ ys → (rs ≡ qs) × (ws ≡ vs) × (xs ≡ ys)
same_reply rs qs [] [] xs ys e = (cc, refl, cc)
same_reply rs qs [] (v ∷ vs) xs ys e = absurd cc
same_reply rs qs (w ∷ ws) [] xs ys e = absurd cc
same_reply rs qs (w ∷ ws) (v ∷ vs) xs ys e =
    let first : w ≡ v = cc in
    let others : (map Put ws ++ Reply rs ∷ []) ++ xs ≡ (map Put vs ++ Reply qs ∷ []) ++ ys = cc in
    let same = same_reply rs qs ws vs xs ys others in
    (same.0, ap₂ (λ (z : Write) (zs : List Write). z ∷ zs) first same.1, same.2)

no_exit : (rs : List ℕ) (ws : List Write) (code : ℕ) (xs ys : List Line) → (map Put ws ++ Reply rs ∷ []) ++ xs ≡ Exit code ∷ ys → ⊥
no_exit rs [] code xs ys e = cc
no_exit rs (w ∷ ws) code xs ys e = cc

same_answer : (a b : Answer) (xs ys : List Line) → answer_as_lines a ++ xs ≡ answer_as_lines b ++ ys → SameAnswer a b xs ys
same_answer (answer.Reply rs ws) (answer.Reply qs vs) xs ys e =
    let same = same_reply rs qs ws vs xs ys e in
    (ap₂ (λ r w. answer.Reply r w) same.0 same.1, same.2)
same_answer (answer.Reply rs ws) (answer.Exit code) xs ys e = absurd (no_exit rs ws code xs ys e)
same_answer (answer.Exit code) (answer.Reply rs ws) xs ys e = absurd (no_exit rs ws code ys xs (sym e))
same_answer (answer.Exit c) (answer.Exit d) xs ys e = (cc, cc)

same_call : (c d : TraceCall) (xs ys : List Line) → call_as_lines c ++ xs ≡ call_as_lines d ++ ys → (c ≡ d) × (xs ≡ ys)
same_call c d xs ys e =
    let heads : head_of c ≡ head_of d = cc in
    let others : answer_as_lines c.answer ++ xs ≡ answer_as_lines d.answer ++ ys = cc in
    let same = same_answer c.answer d.answer xs ys others in
    (ap₂ (λ h a. record { steps = h.steps; «module» = h.«module»; name = h.name; args = h.args; answer = a }) heads same.0, same.1)

same_calls : (cs ds : List TraceCall) (m n : ℕ) (how why : TraceEnd) → flat_map call_as_lines cs ++ End m how ∷ [] ≡ flat_map call_as_lines ds ++ End n why ∷ [] → (cs ≡ ds) × (m ≡ n) × (how ≡ why)
same_calls [] [] m n how why e = (refl, cc, cc)
same_calls [] (d ∷ ds) m n how why e = absurd cc
same_calls (c ∷ cs) [] m n how why e = absurd cc
same_calls (c ∷ cs) (d ∷ ds) m n how why e =
    let parts : call_as_lines c ++ (flat_map call_as_lines cs ++ End m how ∷ []) ≡ call_as_lines d ++ (flat_map call_as_lines ds ++ End n why ∷ []) =
    sym (append_assoc (call_as_lines c) (flat_map call_as_lines cs) _) ∙ e ∙ append_assoc (call_as_lines d) (flat_map call_as_lines ds) _ in
    let first = same_call c d _ _ parts in
    let others = same_calls cs ds m n how why first.1 in
    (ap₂ (λ (z : TraceCall) (zs : List TraceCall). z ∷ zs) first.0 others.0, others.1, others.2)

same_lines : (t u : Trace) → trace_as_lines t ≡ trace_as_lines u → t ≡ u
same_lines t u e =
    let behind_header : flat_map call_as_lines t.calls ++ End t.steps t.end ∷ [] ≡ flat_map call_as_lines u.calls ++ End u.steps u.end ∷ [] = cc in
    let same = same_calls t.calls u.calls t.steps u.steps t.end u.end behind_header in
    ap₂ (λ calls (p : ℕ × TraceEnd). record { calls = calls; steps = p.0; end = p.1 }) same.0 (ap₂ (λ n how. (n, how)) same.1 same.2)

pub one_trace : (t u : Trace) → IsInRange t → IsInRange u → trace_text t ≡ trace_text u → t ≡ u
one_trace t u a b e =
    let lines : trace_lines t ≡ trace_lines u = sym (text_lines t a) ∙ ap lines_of e ∙ text_lines u b in
    same_lines t u (one_list (trace_as_lines t) (trace_as_lines u) (lines_in_range t a) (lines_in_range u b) (lines_are t ∙ lines ∙ sym (lines_are u)))
