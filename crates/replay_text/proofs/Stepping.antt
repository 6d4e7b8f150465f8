-- The lines of a trace lead to it, and what lines led to is what they say.
use Rattle.std.proofs.Common.{◌≡◌, ℕ, ◌^◌, ◌<◌, List, [], ◌∷◌, ◌++◌, map, flat_map, Option, Some, None, refl, sym, ap, ap₂, ◌∙◌, subst, append_assoc, append-nil, arith}
use Rattle.std.specs.List.{AllByRecursion}
use Rattle.std.proofs.lemmas.List.{map_push}
use Rattle.std.proofs.lemmas.List.Concat.{flat_map-append}
use Rattle.std.proofs.lemmas.List.Elements.{All-from_recursion}
use Rattle.spec_traces.specs.spec_hosts.spec_binary.Options.{◌>>=◌}
use Rattle.spec_traces.specs.spec_hosts.wasm_form.declared.runtime.Answer.{Answer}
use Rattle.spec_traces.specs.spec_hosts.wasm_form.declared.runtime.Answer.TheVariants as answer
use Rattle.spec_traces.specs.spec_hosts.wasm_form.declared.runtime.Write.{Write}
use Rattle.spec_traces.specs.declared.trace.Trace.{Trace}
use Rattle.spec_traces.specs.declared.trace.TraceCall.{TraceCall}
use Rattle.spec_traces.specs.declared.trace.TraceEnd.{TraceEnd}
use Rattle.spec_traces.specs.declared.trace.TraceEnd.TheVariants as end
use Rattle.spec_traces.specs.declared.line.CallHead.{CallHead}
use Rattle.spec_traces.specs.declared.line.Line.{Line}
use Rattle.spec_traces.specs.declared.line.Line.TheVariants.{Header, Call, Put, Reply, Exit, End}
use Rattle.spec_traces.specs.Texts.{IsWriteInRange, IsAnswerInRange, IsCallInRange, IsInRange}
use Rattle.spec_traces.specs.Lines.{line_text, head_of, answer_as_lines, call_as_lines, trace_as_lines, IsLineInRange}
use Rattle.spec_traces.specs.Reading.{line_of}
use Rattle.spec_traces.proofs.of_spec_binary.Options.{went_on}
use Rattle.spec_traces.proofs.Seen.{each-append}
use Rattle.spec_traces.proofs.LinesAgain.{read_again}
use Rattle.replay_text.specs.declared.stage.Due.{Due}
use Rattle.replay_text.specs.declared.stage.Due.TheVariants as due
use Rattle.replay_text.specs.Stages.{SoFar, start, answered, header_step, call_step, put_step, reply_step, exit_step, end_step, step, text_step, steps, whole_by, whole}
use Rattle.replay_text.proofs.WordsTaken.{some_is}
use Rattle.replay_text.proofs.LinesTaken.{line_taken}

abbrev pub at : List TraceCall → List Write → Due → SoFar
at calls writes d = record { calls = calls; writes = writes; due = d }

-- ---- the lines of a trace lead to it

abbrev line_steps : SoFar → List Line → Option SoFar
line_steps s [] = Some s
line_steps s (line ∷ lines) = step s line >>= λ next. line_steps next lines

puts_lead : (writes : List Write) (calls : List TraceCall) (before : List Write) (head : CallHead) (lines : List Line)
    → line_steps (at calls before (due.Answer head)) (map Put writes ++ lines) ≡ line_steps (at calls (before ++ writes) (due.Answer head)) lines
puts_lead [] calls before head lines = ap (λ (ws : List Write). line_steps (at calls ws (due.Answer head)) lines) (sym (append-nil before))
puts_lead (w ∷ writes) calls before head lines =
    puts_lead writes calls (before ++ w ∷ []) head lines
    ∙ ap (λ (ws : List Write). line_steps (at calls ws (due.Answer head)) lines) (append_assoc before (w ∷ []) writes)

answer_leads : (a : Answer) (calls : List TraceCall) (head : CallHead) (lines : List Line)
    → line_steps (at calls [] (due.Answer head)) (answer_as_lines a ++ lines) ≡ line_steps (at (calls ++ answered head a ∷ []) [] due.Call) lines
answer_leads (answer.Reply results writes) calls head lines =
    ap (line_steps (at calls [] (due.Answer head))) (append_assoc (map Put writes) (Reply results ∷ []) lines)
    ∙ puts_lead writes calls [] head (Reply results ∷ lines)
answer_leads (answer.Exit code) calls head lines = refl

calls_lead : (further calls : List TraceCall) (lines : List Line)
    → line_steps (at calls [] due.Call) (flat_map call_as_lines further ++ lines) ≡ line_steps (at (calls ++ further) [] due.Call) lines
calls_lead [] calls lines = ap (λ (cs : List TraceCall). line_steps (at cs [] due.Call) lines) (sym (append-nil calls))
calls_lead (c ∷ further) calls lines =
    ap (line_steps (at calls [] due.Call)) (append_assoc (call_as_lines c) (flat_map call_as_lines further) lines)
    ∙ answer_leads c.answer calls (head_of c) (flat_map call_as_lines further ++ lines)
    ∙ calls_lead further (calls ++ c ∷ []) lines
    ∙ ap (λ (cs : List TraceCall). line_steps (at cs [] due.Call) lines) (append_assoc calls (c ∷ []) further)

abbrev pub end_at : Trace → SoFar
end_at t = at t.calls [] (due.Nothing t.steps t.end)

lines_lead : (t : Trace) → line_steps start (trace_as_lines t) ≡ Some (end_at t)
lines_lead t = calls_lead t.calls [] (End t.steps t.end ∷ [])

then_same : (f g : SoFar → Option SoFar) (o : Option SoFar) → ((next : SoFar) → f next ≡ g next) → (o >>= f) ≡ (o >>= g)
then_same f g None so = refl
then_same f g (Some next) so = so next

texts_lead : (lines : List Line) (s : SoFar) → AllByRecursion IsLineInRange lines → steps s (map line_text lines) ≡ line_steps s lines
texts_lead [] s range = refl
texts_lead (line ∷ lines) s range = rw (read_again line range.0) (then_same (λ next. steps next (map line_text lines)) (λ next. line_steps next lines) (step s line) (λ next. texts_lead lines next range.1))

pub trace_leads : (t : Trace) → AllByRecursion IsLineInRange (trace_as_lines t) → steps start (map line_text (trace_as_lines t)) ≡ Some (end_at t)
trace_leads t range = texts_lead (trace_as_lines t) start range ∙ lines_lead t

then_apart : (f g h : SoFar → Option SoFar) (o : Option SoFar) → ((next : SoFar) → f next ≡ (g next >>= h)) → (o >>= f) ≡ ((o >>= g) >>= h)
then_apart f g h None so = refl
then_apart f g h (Some next) so = so next

pub steps-append : (xs ys : List (List ℕ)) (s : SoFar) → steps s (xs ++ ys) ≡ (steps s xs >>= λ next. steps next ys)
steps-append [] ys s = refl
steps-append (x ∷ xs) ys s = then_apart (λ next. steps next (xs ++ ys)) (λ next. steps next xs) (λ last. steps last ys) (text_step s x) (λ next. steps-append xs ys next)

-- ---- what lines led to is what they say

-- the lines that lead so far
abbrev pub lines_before : Due → List TraceCall → List Write → List Line
lines_before due.Header calls writes = []
lines_before due.Call calls writes = Header ∷ flat_map call_as_lines calls
lines_before (due.Answer head) calls writes = Header ∷ (flat_map call_as_lines calls ++ Call head ∷ map Put writes)
lines_before (due.Nothing n how) calls writes = Header ∷ (flat_map call_as_lines calls ++ End n how ∷ [])

-- what isn't begun is empty
abbrev pub IsBegun : Due → List TraceCall → List Write → Type 0
IsBegun due.Header calls writes = (calls ≡ []) × (writes ≡ [])
IsBegun due.Call calls writes = writes ≡ []
IsBegun (due.Answer head) calls writes = Unit {0}
IsBegun (due.Nothing n how) calls writes = writes ≡ []

abbrev pub Leads : List Line → SoFar → Type 0
Leads lines s = (lines ≡ lines_before s.due s.calls s.writes) × IsBegun s.due s.calls s.writes

module _ (lines : List Line) (calls : List TraceCall) (writes : List Write) (next : SoFar) where
  -- one more line
  abbrev Further : Line → Due → Option SoFar → Type 0
  Further line d stepped = lines ≡ lines_before d calls writes → IsBegun d calls writes → stepped ≡ Some next → Leads (lines ++ line ∷ []) next

  arrives : (line : Line) (s : SoFar) → ◌≡◌ {A = Option SoFar} (Some s) (Some next) → Leads (lines ++ line ∷ []) s → Leads (lines ++ line ∷ []) next
  arrives line s e h = subst (Leads (lines ++ line ∷ [])) (some_is s next e) h

  header_leads : (d : Due) → Further Header d (header_step d (at calls writes d))
  header_leads due.Header is begun e = arrives Header _ e (ap (λ (l : List Line). l ++ Header ∷ []) is ∙ ap (λ cs. Header ∷ flat_map call_as_lines cs) (sym begun.0), begun.1)
  header_leads due.Call is begun e = absurd cc
  header_leads (due.Answer head) is begun e = absurd cc
  header_leads (due.Nothing n how) is begun e = absurd cc

  call_leads : (head : CallHead) (d : Due) → Further (Call head) d (call_step head d (at calls writes d))
  call_leads head due.Header is begun e = absurd cc
  call_leads head due.Call is begun e = arrives (Call head) _ e
      (ap (λ (l : List Line). l ++ Call head ∷ []) is ∙ ap (λ (ws : List Write). Header ∷ (flat_map call_as_lines calls ++ Call head ∷ map Put ws)) (sym begun), tt)
  call_leads head (due.Answer other) is begun e = absurd cc
  call_leads head (due.Nothing n how) is begun e = absurd cc

  put_leads : (w : Write) (d : Due) → Further (Put w) d (put_step w d (at calls writes d))
  put_leads w due.Header is begun e = absurd cc
  put_leads w due.Call is begun e = absurd cc
  put_leads w (due.Answer head) is begun e = arrives (Put w) _ e (
    ap (λ (l : List Line). l ++ Put w ∷ []) is
        ∙ ap (λ (l : List Line). Header ∷ l)
        (append_assoc (flat_map call_as_lines calls) (Call head ∷ map Put writes) (Put w ∷ [])
        ∙ ap (λ (l : List Line). flat_map call_as_lines calls ++ Call head ∷ l) (sym (map_push Put writes w))),
    tt,
  )
  put_leads w (due.Nothing n how) is begun e = absurd cc

  -- a call with its answer
  whole_call : (head : CallHead) (a : Answer) (line : Line) → answer_as_lines a ≡ map Put writes ++ line ∷ []
      → (flat_map call_as_lines calls ++ Call head ∷ map Put writes) ++ line ∷ [] ≡ flat_map call_as_lines (calls ++ answered head a ∷ [])
  whole_call head a line is =
      append_assoc (flat_map call_as_lines calls) (Call head ∷ map Put writes) (line ∷ [])
      ∙ ap (λ (l : List Line). flat_map call_as_lines calls ++ Call head ∷ l) (sym is ∙ sym (append-nil (answer_as_lines a)))
      ∙ sym (flat_map-append call_as_lines calls (answered head a ∷ []))

  reply_leads : (results : List ℕ) (d : Due) → Further (Reply results) d (reply_step results d (at calls writes d))
  reply_leads results due.Header is begun e = absurd cc
  reply_leads results due.Call is begun e = absurd cc
  reply_leads results (due.Answer head) is begun e = arrives (Reply results) _ e
      (ap (λ (l : List Line). l ++ Reply results ∷ []) is ∙ ap (λ (l : List Line). Header ∷ l) (whole_call head (answer.Reply results writes) (Reply results) refl), refl)
  reply_leads results (due.Nothing n how) is begun e = absurd cc

  end_leads : (n : ℕ) (how : TraceEnd) (d : Due) → Further (End n how) d (end_step n how d (at calls writes d))
  end_leads n how due.Header is begun e = absurd cc
  end_leads n how due.Call is begun e = arrives (End n how) _ e (ap (λ (l : List Line). l ++ End n how ∷ []) is, begun)
  end_leads n how (due.Answer head) is begun e = absurd cc
  end_leads n how (due.Nothing m why) is begun e = absurd cc

module _ (lines : List Line) (calls : List TraceCall) (next : SoFar) where
  exit_leads : (writes : List Write) (code : ℕ) (d : Due) → Further lines calls writes next (Exit code) d (exit_step code d (at calls writes d))
  exit_leads writes code due.Header is begun e = absurd cc
  exit_leads writes code due.Call is begun e = absurd cc
  exit_leads [] code (due.Answer head) is begun e = arrives lines calls [] next (Exit code) _ e
      (ap (λ (l : List Line). l ++ Exit code ∷ []) is ∙ ap (λ (l : List Line). Header ∷ l) (whole_call lines calls [] next head (answer.Exit code) (Exit code) refl), refl)
  exit_leads (w ∷ writes) code (due.Answer head) is begun e = absurd cc
  exit_leads writes code (due.Nothing n how) is begun e = absurd cc

line_leads : (lines : List Line) (s next : SoFar) (line : Line) → Leads lines s → step s line ≡ Some next → Leads (lines ++ line ∷ []) next
line_leads lines s next Header h e = header_leads lines s.calls s.writes next s.due h.0 h.1 e
line_leads lines s next (Call head) h e = call_leads lines s.calls s.writes next head s.due h.0 h.1 e
line_leads lines s next (Put write) h e = put_leads lines s.calls s.writes next write s.due h.0 h.1 e
line_leads lines s next (Reply results) h e = reply_leads lines s.calls s.writes next results s.due h.0 h.1 e
line_leads lines s next (Exit code) h e = exit_leads lines s.calls next s.writes code s.due h.0 h.1 e
line_leads lines s next (End n how) h e = end_leads lines s.calls s.writes next n how s.due h.0 h.1 e

-- what texts say that are read
pub record AreRead (texts : List (List ℕ)) (before : List Line) (s : SoFar) : Type 0 where
  pub lines : List Line
  pub texts_are : texts ≡ map line_text lines
  pub range : AllByRecursion IsLineInRange lines
  pub lead : Leads (before ++ lines) s

texts_read : (texts : List (List ℕ)) (before : List Line) (s last : SoFar) → Leads before s → steps s texts ≡ Some last → AreRead texts before last
texts_read [] before s last h e = record { lines = []; texts_are = refl; range = tt; lead = subst (λ n. Leads (before ++ []) n) (some_is s last e) (subst (λ l. Leads l s) (sym (append-nil before)) h) }
texts_read (text ∷ texts) before s last h e =
    let one = went_on (text_step s text) _ last e in
    let said = went_on (line_of text) _ one.0 one.1 in
    let taken = line_taken text said.0 said.1 in
    let others = texts_read texts (before ++ said.0 ∷ []) one.0 last (line_leads before s one.0 said.0 h said.2) one.2 in
    record {
      lines = said.0 ∷ others.lines;
      texts_are = ap₂ (λ (t : List ℕ) (ts : List (List ℕ)). t ∷ ts) taken.0 others.texts_are;
      range = (taken.1, others.range);
      lead = subst (λ l. Leads l last) (append_assoc before (said.0 ∷ []) others.lines) others.lead;
    }

pub all_read : (texts : List (List ℕ)) (s : SoFar) → steps start texts ≡ Some s → AreRead texts [] s
all_read texts s e = texts_read texts [] start s (refl, (refl, refl)) e

-- ---- what is read is in range

module _ {A : Type 0} (P : A → Type 0) where
  front_each : (xs ys : List A) → AllByRecursion P (xs ++ ys) → AllByRecursion P xs
  front_each [] ys a = tt
  front_each (x ∷ xs) ys a = (a.0, front_each xs ys a.1)

  back_each : (xs ys : List A) → AllByRecursion P (xs ++ ys) → AllByRecursion P ys
  back_each [] ys a = a
  back_each (x ∷ xs) ys a = back_each xs ys a.1

writes_range : (writes : List Write) → AllByRecursion IsLineInRange (map Put writes) → AllByRecursion IsWriteInRange writes
writes_range [] a = tt
writes_range (w ∷ writes) a = (a.0, writes_range writes a.1)

answer_range : (a : Answer) → AllByRecursion IsLineInRange (answer_as_lines a) → IsAnswerInRange a
answer_range (answer.Reply results writes) range =
    ((back_each IsLineInRange (map Put writes) (Reply results ∷ []) range).0, All-from_recursion IsWriteInRange writes (writes_range writes (front_each IsLineInRange (map Put writes) (Reply results ∷ []) range)))
answer_range (answer.Exit code) range = range.0

calls_range : (calls : List TraceCall) → AllByRecursion IsLineInRange (flat_map call_as_lines calls) → AllByRecursion IsCallInRange calls
calls_range [] range = tt
calls_range (c ∷ calls) range =
    let first = front_each IsLineInRange (call_as_lines c) (flat_map call_as_lines calls) range in (
      record { steps = first.0.steps; from = first.0.from; name = first.0.name; args = first.0.args; answer = answer_range c.answer first.1 },
      calls_range calls (back_each IsLineInRange (call_as_lines c) (flat_map call_as_lines calls) range),
    )

trace_range : (t : Trace) → AllByRecursion IsLineInRange (trace_as_lines t) → IsInRange t
trace_range t range =
    let last = back_each IsLineInRange (flat_map call_as_lines t.calls) (End t.steps t.end ∷ []) range.1 in
    record {
      calls = All-from_recursion IsCallInRange t.calls (calls_range t.calls (front_each IsLineInRange (flat_map call_as_lines t.calls) (End t.steps t.end ∷ []) range.1));
      steps = last.0.0;
      end_is = last.0.1;
    }

-- ---- what is read goes on

-- the lines are the first ones of a trace
pub record GoFurther (lines : List Line) : Type 0 where
  pub trace : Trace
  pub more : List Line
  pub lines_are : lines ++ more ≡ trace_as_lines trace
  pub range : IsInRange trace

module _ (lines : List Line) (range : AllByRecursion IsLineInRange lines) where
  further : (t : Trace) (more : List Line) → AllByRecursion IsLineInRange more → lines ++ more ≡ trace_as_lines t → GoFurther lines
  further t more others is = record { trace = t; more = more; lines_are = is; range = trace_range t (subst (AllByRecursion IsLineInRange) is (each-append IsLineInRange lines more range others)) }

  go_by : (d : Due) (calls : List TraceCall) (writes : List Write) → lines ≡ lines_before d calls writes → IsBegun d calls writes → GoFurther lines
  go_by due.Header calls writes is begun =
      let t : Trace = record { calls = []; steps = 0; end = end.Return } in
      further t (trace_as_lines t) (tt, ((omega arith, tt), tt)) (ap (λ (l : List Line). l ++ trace_as_lines t) is)
  go_by due.Call calls writes is begun =
      let t : Trace = record { calls = calls; steps = 0; end = end.Return } in
      further t (End 0 end.Return ∷ []) ((omega arith, tt), tt) (ap (λ (l : List Line). l ++ End 0 end.Return ∷ []) is)
  go_by (due.Answer head) calls writes is begun =
      let t : Trace = record { calls = calls ++ answered head (answer.Reply [] writes) ∷ []; steps = 0; end = end.Return } in
      further t (Reply [] ∷ End 0 end.Return ∷ []) (All-from_recursion (λ n. n < 2 ^ 64) [] tt, ((omega arith, tt), tt))
      (sym (append_assoc lines (Reply [] ∷ []) (End 0 end.Return ∷ []))
      ∙ ap (λ (l : List Line). (l ++ Reply [] ∷ []) ++ End 0 end.Return ∷ []) is
      ∙ ap (λ (l : List Line). Header ∷ (l ++ End 0 end.Return ∷ [])) (whole_call lines calls writes start head (answer.Reply [] writes) (Reply []) refl))
  go_by (due.Nothing n how) calls writes is begun =
      let t : Trace = record { calls = calls; steps = n; end = how } in
      further t [] tt (append-nil lines ∙ is)

pub go_further : (texts : List (List ℕ)) (s : SoFar) (r : AreRead texts [] s) → GoFurther r.lines
go_further texts s r = go_by r.lines r.range s.due s.calls s.writes r.lead.0 r.lead.1

-- ---- what is whole

whole_lines : (lines : List Line) (d : Due) (calls : List TraceCall) (writes : List Write) (t : Trace) → lines ≡ lines_before d calls writes → whole_by d calls ≡ Some t → lines ≡ trace_as_lines t
whole_lines lines due.Header calls writes t is e = absurd cc
whole_lines lines due.Call calls writes t is e = absurd cc
whole_lines lines (due.Answer head) calls writes t is e = absurd cc
whole_lines lines (due.Nothing n how) calls writes t is e = is ∙ ap trace_as_lines (some_is (record { calls = calls; steps = n; end = how }) t e)

pub whole_read : (texts : List (List ℕ)) (s : SoFar) (t : Trace) (r : AreRead texts [] s) → whole s ≡ Some t → (r.lines ≡ trace_as_lines t) × IsInRange t
whole_read texts s t r e =
    let lines = whole_lines r.lines s.due s.calls s.writes t r.lead.0 e in
    (lines, trace_range t (subst (AllByRecursion IsLineInRange) lines r.range))
