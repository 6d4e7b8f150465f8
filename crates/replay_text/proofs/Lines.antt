-- Lines of bytes, and what reading them one by one tells of a trace.
use Rattle.std.proofs.Common.{◌≡◌, ℕ, zero, suc, ◌+◌, ◌<◌, ◌≤◌, Bool, true, false, cond, eqb, List, [], ◌∷◌, ◌++◌, length, take, drop, map, Option, Some, None, refl, sym, ap, ap₂, ◌∙◌, subst, append_assoc, append-nil, arith, eqb-true, ltb-true, ltb-false, ltb, take-append-drop, length-append, take_at, add-one}
use Rattle.std.specs.List.{position, position_or_len}
use Rattle.std.proofs.lemmas.List.{append_cancel_left, map-append}
use Rattle.std.proofs.lemmas.List.Concat.{flat_map-append}
use Rattle.spec_traces.specs.spec_hosts.spec_binary.Options.{◌>>=◌}
use Rattle.spec_traces.specs.declared.trace.Trace.{Trace}
use Rattle.spec_traces.specs.Texts.{line_feed, on_line, lines_of, trace_lines, trace_text, IsInRange, IsTextOf, GoesOn, BreaksAt}
use Rattle.spec_traces.specs.Lines.{line_text, text_of}
use Rattle.spec_traces.specs.Reading.{line_of}
use Rattle.spec_traces.proofs.TraceLines.{lines_are, lines_in_range, text_lines}
use Rattle.spec_traces.proofs.of_spec_binary.Options.{went_on}
use Rattle.replay_text.specs.Stages.{SoFar, start, step, text_step, steps, whole, IsFirstLine, IsReadTo}
use Rattle.replay_text.proofs.WordsTaken.{some_is}
use Rattle.replay_text.proofs.LinesTaken.{some_line}
use Rattle.replay_text.proofs.Stepping.{end_at, trace_leads, steps-append, all_read, go_further, whole_read}

-- ---- the first line

abbrev is_end : ℕ → Bool
is_end b = eqb b line_feed

abbrev line_length : List ℕ → ℕ
line_length bytes = position_or_len is_end bytes

no_line : (bytes : List ℕ) → length bytes ≤ line_length bytes → lines_of bytes ≡ []
no_line [] h = refl
no_line (b ∷ bytes) h = by_end (is_end b) refl (no_line bytes)
  where
    by_end : (ends : Bool) → is_end b ≡ ends → (length bytes ≤ line_length bytes → lines_of bytes ≡ []) → lines_of (b ∷ bytes) ≡ []
    by_end true e further = let none : line_length (b ∷ bytes) ≡ 0 = rw e refl in absurd (omega (arith, none))
    by_end false e further =
        let more : line_length (b ∷ bytes) ≡ 1 + line_length bytes = rw e refl in
        rw e (ap (on_line b) (further (omega (arith, more))))

cut_line : (bytes : List ℕ) (n : ℕ) → line_length bytes ≡ n → n < length bytes → IsFirstLine bytes (take n bytes) (drop (suc n) bytes)
cut_line [] n is low = absurd (omega arith)
cut_line (b ∷ bytes) zero is low = by_end (is_end b) refl
  where
    by_end : (ends : Bool) → is_end b ≡ ends → IsFirstLine (b ∷ bytes) [] bytes
    by_end true e = record { bytes_are = ap (λ c. c ∷ bytes) (eqb-true b line_feed e); lines_are = rw e refl }
    by_end false e = let more : line_length (b ∷ bytes) ≡ 1 + line_length bytes = rw e refl in absurd (omega (arith, more, is))
cut_line (b ∷ bytes) (suc n) is low = by_end (is_end b) refl (cut_line bytes n)
  where
    by_end : (ends : Bool) → is_end b ≡ ends → (line_length bytes ≡ n → n < length bytes → IsFirstLine bytes (take n bytes) (drop (suc n) bytes))
        → IsFirstLine (b ∷ bytes) (b ∷ take n bytes) (drop (suc n) bytes)
    by_end true e further = let none : line_length (b ∷ bytes) ≡ 0 = rw e refl in absurd (omega (arith, none, is))
    by_end false e further =
        let more : line_length (b ∷ bytes) ≡ 1 + line_length bytes = rw e refl in
        let f = further (omega (arith, more, is)) (omega (arith, low)) in
        record { bytes_are = ap (λ (l : List ℕ). b ∷ l) f.bytes_are; lines_are = rw e (ap (on_line b) f.lines_are) }

pub found_line : (bytes : List ℕ) (n : ℕ) → position is_end bytes ≡ Some n → (n < length bytes) × IsFirstLine bytes (take n bytes) (drop (n + 1) bytes)
found_line bytes n e = by_end (ltb (line_length bytes) (length bytes)) refl e
  where
    by_end : (there : Bool) → ltb (line_length bytes) (length bytes) ≡ there → cond there (Some (line_length bytes)) None ≡ Some n
        → (n < length bytes) × IsFirstLine bytes (take n bytes) (drop (n + 1) bytes)
    by_end true t is =
        let same : line_length bytes ≡ n = some_is (line_length bytes) n is in
        let low : n < length bytes = omega (arith, same, ltb-true _ _ t) in
        (low, rw add-one (cut_line bytes n same low))
    by_end false t is = absurd cc

pub no_line_found : (bytes : List ℕ) → position is_end bytes ≡ None → lines_of bytes ≡ []
no_line_found bytes e = by_end (ltb (line_length bytes) (length bytes)) refl e
  where
    by_end : (there : Bool) → ltb (line_length bytes) (length bytes) ≡ there → ◌≡◌ {A = Option ℕ} (cond there (Some (line_length bytes)) None) None → lines_of bytes ≡ []
    by_end true t is = absurd cc
    by_end false t is = no_line bytes (ltb-false _ _ t)

-- ---- how far bytes are read

texts_length : (texts : List (List ℕ)) → length texts ≤ length (text_of texts)
texts_length [] = omega arith
texts_length (text ∷ texts) =
    omega (arith, texts_length texts, length-append (text ++ line_feed ∷ []) (text_of texts), length-append text (line_feed ∷ []))

-- there are no more lines than bytes
pub few_lines : (bytes : List ℕ) (line : ℕ) (rest : List ℕ) (s : SoFar) → IsReadTo bytes line rest s → line + length rest ≤ length bytes + 1
few_lines bytes line rest s r =
    let whole : length bytes ≡ length (text_of r.front) + length rest = ap length r.bytes_are ∙ length-append (text_of r.front) rest in
    omega (arith, whole, texts_length r.front, r.number)

module _ (bytes : List ℕ) (line : ℕ) (rest : List ℕ) (s : SoFar) (r : IsReadTo bytes line rest s) (text behind : List ℕ) (cut : IsFirstLine rest text behind) where
  text_step-some : (next : SoFar) → text_step s text ≡ Some next → 0 < length text
  text_step-some next e = let said = went_on (line_of text) (λ x. step s x) next e in some_line text said.0 said.1

  rest_length : length rest ≡ length text + suc (length behind)
  rest_length = ap length cut.bytes_are ∙ length-append text (line_feed ∷ behind)

  -- the number of a further line has 32 bits
  pub low_number : (next : SoFar) → text_step s text ≡ Some next → length bytes < 4294967296 → line + 1 < 4294967296
  low_number next e few = omega (arith, few_lines bytes line rest s r, rest_length, text_step-some next e)

  pub shorter : length behind < length rest
  shorter = omega (arith, rest_length)

  pub reads_further : (next : SoFar) → text_step s text ≡ Some next → IsReadTo bytes (line + 1) behind next
  reads_further next e = record {
    front = r.front ++ text ∷ [];
    number = omega (arith, r.number, length-append r.front (text ∷ []));
    bytes_are = r.bytes_are ∙ ap (λ (l : List ℕ). text_of r.front ++ l) cut.bytes_are ∙ regroup;
    lines_are = r.lines_are ∙ ap (λ (l : List (List ℕ)). r.front ++ l) cut.lines_are ∙ sym (append_assoc r.front (text ∷ []) (lines_of behind));
    led = steps-append r.front (text ∷ []) start ∙ ap (λ (o : Option SoFar). o >>= λ n. steps n (text ∷ [])) r.led ∙ ap (λ (o : Option SoFar). o >>= λ n. Some n) e;
  }
    where
      regroup : text_of r.front ++ (text ++ line_feed ∷ behind) ≡ text_of (r.front ++ text ∷ []) ++ behind
      regroup =
          sym (ap (λ (l : List ℕ). l ++ behind) (flat_map-append (λ l. l ++ line_feed ∷ []) r.front (text ∷ []))
          ∙ append_assoc (text_of r.front) (text_of (text ∷ [])) behind
          ∙ ap (λ (l : List ℕ). text_of r.front ++ l) (append_assoc (text ++ line_feed ∷ []) [] behind ∙ append_assoc text (line_feed ∷ []) behind))

-- ---- what goes on

trace_steps : (t : Trace) → IsInRange t → steps start (trace_lines t) ≡ Some (end_at t)
trace_steps t range = ap (steps start) (sym (lines_are t)) ∙ trace_leads t (lines_in_range t range)

module _ (bytes : List ℕ) (line : ℕ) (rest : List ℕ) (s : SoFar) (r : IsReadTo bytes line rest s) where
  goes_on : GoesOn bytes (length r.front)
  goes_on =
      let read = all_read r.front s r.led in
      let further = go_further r.front s read in
      let lines : trace_lines further.trace ≡ r.front ++ map line_text further.more =
      sym (lines_are further.trace) ∙ ap (map line_text) (sym further.lines_are) ∙ map-append line_text read.lines further.more ∙ ap (λ (l : List (List ℕ)). l ++ map line_text further.more) (sym read.texts_are) in (
        further.trace,
        further.range,
        omega (arith, ap length r.lines_are, length-append r.front (lines_of rest)),
        omega (arith, ap length lines, length-append r.front (map line_text further.more)),
        ap (take (length r.front)) r.lines_are ∙ take_at r.front (lines_of rest) (length r.front) refl
            ∙ sym (ap (take (length r.front)) lines ∙ take_at r.front (map line_text further.more) (length r.front) refl),
      )

  -- a line that isn't read
  module _ (text behind : List ℕ) (cut : IsFirstLine rest text behind) (unread : text_step s text ≡ None) where
    led_none : steps start (r.front ++ text ∷ []) ≡ None
    led_none = steps-append r.front (text ∷ []) start ∙ ap (λ (o : Option SoFar). o >>= λ n. steps n (text ∷ [])) r.led ∙ ap (λ (o : Option SoFar). o >>= λ n. Some n) unread

    front_lines : lines_of bytes ≡ (r.front ++ text ∷ []) ++ lines_of behind
    front_lines = r.lines_are ∙ ap (λ (l : List (List ℕ)). r.front ++ l) cut.lines_are ∙ sym (append_assoc r.front (text ∷ []) (lines_of behind))

    front_length : length (r.front ++ text ∷ []) ≡ suc (length r.front)
    front_length = length-append r.front (text ∷ []) ∙ omega arith

    stops : GoesOn bytes (suc (length r.front)) → ⊥
    stops g =
        let t = g.0 in
        let begins : take (suc (length r.front)) (trace_lines t) ≡ r.front ++ text ∷ [] =
        sym g.4 ∙ ap (take (suc (length r.front))) front_lines ∙ take_at (r.front ++ text ∷ []) (lines_of behind) (suc (length r.front)) front_length in
        let lines : trace_lines t ≡ (r.front ++ text ∷ []) ++ drop (suc (length r.front)) (trace_lines t) =
        sym (take-append-drop (suc (length r.front)) (trace_lines t)) ∙ ap (λ (l : List (List ℕ)). l ++ drop (suc (length r.front)) (trace_lines t)) begins in
        let led : steps start ((r.front ++ text ∷ []) ++ drop (suc (length r.front)) (trace_lines t)) ≡ None =
        steps-append (r.front ++ text ∷ []) (drop (suc (length r.front)) (trace_lines t)) start
        ∙ ap (λ (o : Option SoFar). o >>= λ n. steps n (drop (suc (length r.front)) (trace_lines t))) led_none in
        let whole_led : steps start (trace_lines t) ≡ None = ap (steps start) lines ∙ led in
        let some : steps start (trace_lines t) ≡ Some (end_at t) = trace_steps t g.1 in
        cc

    -- its text is that of no trace
    no_text : (t : Trace) → IsTextOf bytes t → ⊥
    no_text t is =
        let lines : lines_of bytes ≡ trace_lines t = ap lines_of is.0 ∙ text_lines t is.1 in
        let long : suc (length r.front) ≤ length (lines_of bytes) = omega (arith, ap length front_lines, length-append (r.front ++ text ∷ []) (lines_of behind), front_length) in
        stops (t, is.1, long, omega (arith, long, ap length lines), ap (take (suc (length r.front))) lines)

    pub breaks_here : BreaksAt bytes line
    breaks_here = record {
      before = length r.front;
      number = r.number ∙ add-one (length r.front);
      goes = goes_on;
      stops = λ g. stops (subst (GoesOn bytes) (r.number ∙ add-one (length r.front)) g);
      no_text = no_text;
    }

  -- behind the last line
  module _ (last : lines_of rest ≡ []) where
    lines_read : lines_of bytes ≡ r.front
    lines_read = r.lines_are ∙ ap (λ (l : List (List ℕ)). r.front ++ l) last ∙ append-nil r.front

    no_more : GoesOn bytes (suc (length r.front)) → ⊥
    no_more g = omega (arith, g.2, ap length lines_read)

    -- where bytes are a text, they are read whole
    only_whole : (t : Trace) → IsTextOf bytes t → (rest ≡ []) × (whole s ≡ Some t)
    only_whole t is =
        let lines : r.front ≡ trace_lines t = sym lines_read ∙ ap lines_of is.0 ∙ text_lines t is.1 in
        let led : Some (end_at t) ≡ Some s = sym (trace_steps t is.1) ∙ ap (steps start) (sym lines) ∙ r.led in
        let parts : text_of (trace_lines t) ++ rest ≡ text_of (trace_lines t) ++ [] =
        ap (λ l. text_of l ++ rest) (sym lines) ∙ sym r.bytes_are ∙ is.0 ∙ sym (append-nil (trace_text t)) in
        (append_cancel_left (text_of (trace_lines t)) rest [] parts, ap whole (sym (some_is (end_at t) s led)))

    pub breaks_behind : (rest ≡ [] → whole s ≡ None) → BreaksAt bytes line
    breaks_behind unread = record {
      before = length r.front;
      number = r.number ∙ add-one (length r.front);
      goes = goes_on;
      stops = λ g. no_more (subst (GoesOn bytes) (r.number ∙ add-one (length r.front)) g);
      no_text = λ t is. let both = only_whole t is in let none = unread both.0 in let some = both.1 in cc;
    }

    pub is_text : (t : Trace) → rest ≡ [] → whole s ≡ Some t → IsTextOf bytes t
    is_text t none e =
        let read = all_read r.front s r.led in
        let said = whole_read r.front s t read e in
        let lines : r.front ≡ trace_lines t = read.texts_are ∙ ap (map line_text) said.0 ∙ lines_are t in
        (r.bytes_are ∙ ap₂ (λ l (m : List ℕ). text_of l ++ m) lines none ∙ append-nil (trace_text t), said.1)
