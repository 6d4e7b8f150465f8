-- A run that is made again follows the one that was told.
use Rattle.std.proofs.Common.{◌≡◌, ◌≢◌, ℕ, zero, suc, ◌<◌, ◌≤◌, ◌^◌, Bool, true, false, true≢false, List, [], ◌∷◌, ◌++◌, length, map, drop, slice_get, append-nil, append_assoc, Option, Some, None, ◌⊎◌, inl, inr, IsTrue, refl, sym, ap, ◌∙◌, subst, arith, length-append}
use Rattle.std.proofs.lemmas.Bool.{cases_lt}
use Rattle.std.proofs.lemmas.Option.{same_Some}
use Rattle.std.proofs.lemmas.List.{map-append, length-map}
use Rattle.std.proofs.lemmas.List.Elements.{All-nil, All-push}
use Rattle.spec_traces.specs.spec_hosts.wasm_form.declared.runtime.Trap.{Trap}
use Rattle.spec_traces.specs.spec_hosts.wasm_form.declared.runtime.Answer.{Answer}
use Rattle.spec_traces.specs.spec_hosts.wasm_form.declared.runtime.Asked.{Asked}
use Rattle.spec_traces.specs.spec_hosts.spec_runs.Systems.{Status, Moving, Waits, Returned, Exited, Trapped, System, with_rest, only_if, next_at, next, Ran, run}
use Rattle.spec_traces.specs.spec_hosts.spec_runtime.Memories.{MemoryInstance}
use Rattle.spec_traces.specs.spec_hosts.spec_runtime.Names.{HostName}
use Rattle.spec_traces.specs.spec_hosts.spec_runtime.Hosts.{HostCall, hosts, answer_fits}
use Rattle.spec_traces.specs.spec_hosts.spec_runtime.Recorded.{Recorded, has_ended, waits, FitsWait}
use Rattle.spec_traces.specs.spec_hosts.spec_runtime.Courses.{Course, no_steps, with_step, with_answer, after, reached, state_at, status_at, memory_at, IsAt, is_waiting}
use Rattle.spec_traces.specs.spec_hosts.Ends.{is_due, EndsAs, Makes, taken_by}
use Rattle.spec_traces.specs.spec_hosts.declared.ran.Ran as ran
use Rattle.spec_traces.specs.spec_hosts.declared.ran.RunEnd.TheVariants as ended
use Rattle.spec_traces.specs.declared.trace.Trace.{Trace}
use Rattle.spec_traces.specs.declared.trace.TraceCall.{TraceCall}
use Rattle.spec_traces.specs.declared.trace.TraceEnd.{TraceEnd}
use Rattle.spec_traces.specs.declared.trace.TraceEnd.TheVariants as end
use Rattle.spec_traces.specs.Texts.{run_end, IsCallInRange}
use Rattle.spec_traces.specs.Traces as traces
use Rattle.spec_traces.specs.Traces.{answers_of, IsAsked, IsWaited, most_for, IsTraceOf}
use Rattle.spec_loading.proofs.of_spec_runtime.Recorded.{unanswered_left}
use Rattle.dyl_link.specs.host_table.Names.{host_name_of}
use Rattle.dyl_link.specs.host_table.declared.host.HostName as code
use Rattle.wasm_machine.specs.declared.event.Event.{Event}
use Rattle.wasm_machine.specs.declared.event.Event.TheVariants as event
use Rattle.wasm_machine.specs.Steps.{TellsStatus, RunStepped, Advances, AreOfCode, Awaits}
use Rattle.wasm_machine.proofs.Courses.{at_recorded}
use Rattle.run_loaded.specs.Events.{asked_by}
use Rattle.run_loaded.proofs.of_spec_runs.Runs.{run_append, real_split}
use Rattle.run_loaded.proofs.Growth.{real_front}
use Rattle.run_loaded.proofs.Waiting.{not_waiting}
use Rattle.replay_check.specs.Checks.{HasRun}
use Rattle.replay_check.specs.Recording.{call_noted, IsCalled, Follows, GoesOn, Stops}
use Rattle.replay_check.specs.Following.{is_deep}
use Rattle.replay_check.proofs.Telling.{told_still, waits_for, step_told, deep_told}

-- ---- lists

at_seam : {A : Type 0} (xs : List A) (y : A) (ys : List A) → slice_get (xs ++ y ∷ ys) (length xs) ≡ Some y
at_seam [] y ys = refl
at_seam (x ∷ xs) y ys = at_seam xs y ys

past_front : {A : Type 0} (xs ys : List A) → drop (length xs) (xs ++ ys) ≡ ys
past_front [] ys = refl
past_front (x ∷ xs) ys = past_front xs ys

-- an element of a list with one more is one of the list or that one
pushed : {A : Type 0} (xs : List A) (y : A) (k : ℕ) (x : A) → slice_get (xs ++ y ∷ []) k ≡ Some x → (slice_get xs k ≡ Some x) ⊎ ((k ≡ length xs) × (y ≡ x))
pushed [] y zero x e = inr (refl, same_Some y x e)
pushed [] y (suc k) x e = absurd cc
pushed (z ∷ xs) y zero x e = inl e
pushed (z ∷ xs) y (suc k) x e = elim (pushed xs y k x e) [ inl before ↦ inl before | inr last ↦ inr (ap suc last.0, last.1) ]

none_behind : {A : Type 0} (xs ys : List A) → xs ++ ys ≡ [] → ys ≡ []
none_behind [] ys e = e
none_behind (x ∷ xs) ys e = absurd cc

-- ---- what is told of a step

module _ (host : ℕ → Option HostName) where
  -- where a host call is told the run waits for that
  told_call : (e : Event) (status : Status HostCall Trap) (asked : Asked) → asked_by e ≡ Some asked → TellsStatus host e status → IsCalled host status asked
  told_call (event.Waits a) status asked some tells = subst (IsCalled host status) (same_Some a asked some) (waits_for host a status tells)
  told_call event.Moved status asked some tells = absurd cc
  told_call (event.Loader which first second) status asked some tells = absurd cc
  told_call (event.Marked tag) status asked some tells = absurd cc
  told_call event.Returned status asked some tells = absurd cc
  told_call (event.Trapped why) status asked some tells = absurd cc
  told_call (event.Exited code) status asked some tells = absurd cc
  told_call event.Deep status asked some tells = absurd cc

-- ---- a step that is made

-- a state with a step hasn't ended
goes_live : (S : System hosts) (status : Status HostCall Trap) (s : S.State) (left : List Answer) (x : S.State × List Answer) → next_at S status s left ≡ Some x → has_ended status ≡ false
goes_live S Moving s left x e = refl
goes_live S (Waits call) s left x e = refl
goes_live S Returned s left x e = absurd cc
goes_live S (Exited code) s left x e = absurd cc
goes_live S (Trapped why) s left x e = absurd cc

-- the answer that a wait takes, and those after it
pub record Takes (call : HostCall) (memory : MemoryInstance) (left : List Answer) : Type 0 where
  pub answer : Answer
  pub more : List Answer
  pub first : left ≡ answer ∷ more
  pub fits : IsTrue (answer_fits call memory answer)

fits_where : {X A : Type 0} (fits : Bool) (x : X) (rest : List A) (y : X × List A) → with_rest rest (only_if fits x) ≡ Some y → fits ≡ true
fits_where true x rest y e = refl
fits_where false x rest y e = absurd cc

wait_takes : (S : System hosts) (call : HostCall) (s : S.State) (left : List Answer) (x : S.State × List Answer) → next_at S (Waits call) s left ≡ Some x → Takes call (S.memory s) left
wait_takes S call s [] x e = absurd cc
wait_takes S call s (a ∷ more) x e = record { answer = a; more = more; first = refl; fits = fits_where (answer_fits call (S.memory s) a) (S.take a s) more x e }

module _ (C : Course) (r : ran.Ran) where
  abbrev States : Type 0
  States = C.system.State

  -- over all answers the run stands where it stands over its own, and the others are left
  over_all : (x : Recorded) (rest : List Answer) → IsAt C x → r.answers ≡ x.answers ++ rest → after C x.steps r.answers ≡ record (reached C x) { left = (reached C x).left ++ rest }
  over_all x rest stands given = ap (λ g. after C x.steps g) given ∙ run_append C.system x.steps C.opening x.answers rest stands.real

  -- the same run, as far as it has come
  followed : (calls : List TraceCall) (x y : Recorded) → Follows C r calls x → y.answers ≡ x.answers → y.steps ≤ r.steps → IsAt C y → Follows C r calls y
  followed calls x y f same few stands = record {
    stands = stands;
    few = few;
    answers = f.answers ∙ sym same;
    rest = f.rest;
    given = f.given ∙ ap (λ a. a ++ f.rest) (sym same);
    noted = f.noted;
    range = f.range;
  }

  -- it begins from the opening state
  begins : C.system.status C.opening ≡ Moving → GoesOn C r [] no_steps
  begins moving = (
    record {
      stands = record { found = refl; run = refl; real = tt; left = refl };
      few = omega arith;
      answers = refl;
      rest = r.answers;
      given = refl;
      noted = λ k c at t same. absurd cc;
      range = λ lt. All-nil IsCallInRange;
    },
    λ lt. not_waiting no_steps (C.system.status C.opening) (ap waits moving),
  )

  pub begins_so : (calls : List TraceCall) (x : Recorded) → C.system.status C.opening ≡ Moving → calls ≡ [] → x ≡ no_steps → GoesOn C r calls x
  begins_so calls x moving none fresh = rw (none, fresh) (begins moving)

  -- further steps of code
  module _ (calls : List TraceCall) (most : ℕ) (x y : Recorded) (goes : GoesOn C r calls x) (made : Advances most x y) (code : AreOfCode C x y) (found : y.lost ≡ false) (stands : IsAt C y) where
    stays_ready : is_waiting C x ≡ false → is_waiting C y ≡ false
    stays_ready ready = elim (cases_lt x.steps y.steps) [
      | inl more ↦ not_waiting y (status_at C y) (code.unasked more)
      | inr none ↦
          let count : y.steps ≡ x.steps = omega (arith, made.more) in
          let lost : y.lost ≡ x.lost = found ∙ sym goes.0.stands.found in
          let same : y ≡ x = made.same ∙ (λ i. record x { steps = count i; lost = lost i }) in
          subst (λ z. is_waiting C z ≡ false) (sym same) ready
    ]

    pub goes_along : x.steps < r.steps → y.steps ≤ r.steps → GoesOn C r calls y
    goes_along lt few = (followed calls x y goes.0 (ap (λ (z : Recorded). z.answers) made.same) few stands, λ below. stays_ready (goes.1 lt))

  module _ (has : HasRun C r) where
    -- each step of the run is made
    goes_next : (n : ℕ) → n < r.steps → (x : States × List Answer) × (next C.system (after C n r.answers).state (after C n r.answers).left ≡ Some x)
    goes_next n lt = (real_split C.system n C.opening r.answers (real_front C.system (suc n) r.steps C.opening r.answers (omega arith) has.runs.made.real)).1

    flat_where : (s : States) (taken : List Answer) → C.system.status s ≡ Moving → is_due C.system C.deep s taken ≡ false → C.deep s ≡ false
    flat_where s taken moving due = rw (moving, is_due) at due

    module _ (calls : List TraceCall) (x : Recorded) (f : Follows C r calls x) (lt : x.steps < r.steps) where
      here : after C x.steps r.answers ≡ record (reached C x) { left = (reached C x).left ++ f.rest }
      here = over_all x f.rest f.stands f.given

      next_here : (z : States × List Answer) × (next C.system (state_at C x) ((reached C x).left ++ f.rest) ≡ Some z)
      next_here = subst (λ (q : Ran hosts C.system.State). (z : States × List Answer) × (next C.system q.state q.left ≡ Some z)) here (goes_next x.steps lt)

      unended : has_ended (status_at C x) ≡ false
      unended = goes_live C.system (status_at C x) (state_at C x) ((reached C x).left ++ f.rest) next_here.0 next_here.1

      flat : status_at C x ≡ Moving → C.deep (state_at C x) ≡ false
      flat moving =
          let same : (after C x.steps r.answers).state ≡ state_at C x = ap (λ (q : Ran hosts C.system.State). q.state) here in
          let there : C.system.status (after C x.steps r.answers).state ≡ Moving = ap (λ s. C.system.status s) same ∙ moving in
          subst (λ s. C.deep s ≡ false) same (flat_where (after C x.steps r.answers).state (taken_by C.system x.steps C.opening r.answers) there (has.runs.made.free x.steps lt))

      -- one step more was made
      abbrev IsMade : Event → Recorded → Type 0
      IsMade e y = (y ≡ with_step x) × IsAt C y × TellsStatus C.host e (status_at C y)

      is_made : (e : Event) (y : Recorded) → RunStepped C e x y → IsMade e y
      is_made e y h = by (is_deep e) refl
        where
          by : (deep : Bool) → is_deep e ≡ deep → IsMade e y
          by true deep = (let told = deep_told C x y e deep h in absurd (true≢false (sym told.1 ∙ flat told.0)))
          by false shallow = (let told = step_told C x y e unended shallow h in (told.0.1, told.0.2, told.0.3))

      stepped : (y : Recorded) → y ≡ with_step x → IsAt C y → Follows C r calls y
      stepped y same stands =
          let count : y.steps ≡ suc x.steps = ap (λ (z : Recorded). z.steps) same in
          followed calls x y f (ap (λ (z : Recorded). z.answers) same) (omega arith) stands

      -- after it the run goes on
      pub goes_on : (e : Event) (y : Recorded) → RunStepped C e x y → asked_by e ≡ None → GoesOn C r calls y
      goes_on e y h none =
          let m = is_made e y h in
          (stepped y m.0 m.1, λ below. not_waiting y (status_at C y) (told_still C.host e (status_at C y) none m.2))

      -- or a call is to be noted
      pub stops : (e : Event) (y : Recorded) (asked : Asked) → RunStepped C e x y → asked_by e ≡ Some asked → Stops C r calls y asked
      stops e y asked h some =
          let m = is_made e y h in
          (stepped y m.0 m.1, ap (λ (z : Recorded). z.answered) m.0, told_call C.host e (status_at C y) asked some m.2)

      pub counts : (e : Event) (y : Recorded) → RunStepped C e x y → y.steps ≡ suc x.steps
      counts e y h = ap (λ (z : Recorded). z.steps) (is_made e y h).0

      -- the call that is waited for takes the next of the answers
      module _ (asked : Asked) (unanswered : x.answered ≡ false) (called : IsCalled C.host (status_at C x) asked) where
        none_left : (reached C x).left ≡ []
        none_left = unanswered_left x.answered (status_at C x) (memory_at C x) (reached C x).left f.stands.left unanswered

        rest_left : (reached C x).left ++ f.rest ≡ f.rest
        rest_left = ap (λ l. l ++ f.rest) none_left

        takes : Takes called.call (memory_at C x) f.rest
        takes =
            let z = next_here in
            wait_takes C.system called.call (state_at C x) f.rest z.0
            (subst (λ (status : Status HostCall Trap). next_at C.system status (state_at C x) f.rest ≡ Some z.0) called.waits (ap (λ l. next C.system (state_at C x) l) (sym rest_left) ∙ z.1))

        count : length calls ≡ length x.answers
        count = sym (length-map calls (λ (c : TraceCall). c.answer)) ∙ ap length f.answers

        all : r.answers ≡ x.answers ++ takes.answer ∷ takes.more
        all = f.given ∙ ap (λ l. x.answers ++ l) takes.first

        at_next : slice_get r.answers (length calls) ≡ Some takes.answer
        at_next = ap (λ g. slice_get g (length calls)) all ∙ ap (slice_get (x.answers ++ takes.answer ∷ takes.more)) count ∙ at_seam x.answers takes.answer takes.more

        -- it is there
        pub next_within : length calls < length r.answers
        next_within =
            let whole : length r.answers ≡ length (x.answers ++ takes.answer ∷ takes.more) = ap length all in
            omega (arith, count, length-append x.answers (takes.answer ∷ takes.more))

        module _ (given : Answer) (at : slice_get r.answers (length calls) ≡ Some given) where
          same_answer : takes.answer ≡ given
          same_answer = same_Some takes.answer given (sym at_next ∙ at)

          fits_next : IsTrue (answer_fits called.call (memory_at C x) given)
          fits_next = subst (λ a. IsTrue (answer_fits called.call (memory_at C x) a)) same_answer takes.fits

          -- and fits
          pub awaits_next : Awaits C x given
          awaits_next = (unanswered, f.stands.found, subst (λ status. FitsWait given status (memory_at C x)) (sym called.waits) fits_next)

          module _ (h : code.HostName) (there : C.host asked.entry ≡ Some (host_name_of h)) where
            abbrev noted : TraceCall
            noted = call_noted x.steps h asked.args given

            same_host : called.call.host ≡ host_name_of h
            same_host = same_Some called.call.host (host_name_of h) (sym called.there ∙ there)

            is_asked : IsAsked noted (status_at C x) (memory_at C x)
            is_asked =
                subst (λ status. IsAsked noted status (memory_at C x)) (sym called.waits) (
                  ap (λ (n : HostName). n.module_name) same_host,
                  ap (λ (n : HostName). n.name) same_host,
                  sym called.args,
                  fits_next,
                )

            is_waited : (t : Trace) → answers_of t ≡ r.answers → IsWaited C t (length calls) noted
            is_waited t same =
                let there : traces.after C t x.steps ≡ record (reached C x) { left = (reached C x).left ++ f.rest } = ap (λ g. after C x.steps g) same ∙ here in
                record {
                  asked = subst (λ (q : Ran hosts C.system.State). IsAsked noted (C.system.status q.state) (C.system.memory q.state)) (sym there) is_asked;
                  left = ap (λ (q : Ran hosts C.system.State). q.left) there ∙ rest_left ∙ sym (ap (drop (length calls)) (same ∙ f.given) ∙ ap (λ n. drop n (x.answers ++ f.rest)) count ∙ past_front x.answers f.rest);
                }

            -- the run with its answer, and the call noted
            notes : (x.steps < 2 ^ 63 → IsCallInRange noted) → GoesOn C r (calls ++ noted ∷ []) (with_answer x given)
            notes range = (
              record {
                stands = (at_recorded C x f.stands called.call given unanswered called.waits fits_next).0;
                few = f.few;
                answers = map-append (λ (c : TraceCall). c.answer) calls (noted ∷ []) ∙ ap (λ l. l ++ given ∷ []) f.answers;
                rest = takes.more;
                given = all ∙ ap (λ a. x.answers ++ a ∷ takes.more) same_answer ∙ sym (append_assoc x.answers (given ∷ []) takes.more);
                noted = λ k c at_k t same.
                    elim (pushed calls noted k c at_k) [
                      | inl before ↦ f.noted k c before t same
                      | inr last ↦ subst (λ (p : ℕ). IsWaited C t p c) (sym last.0) (subst (IsWaited C t (length calls)) last.1 (is_waited t same))
                    ];
                range = λ few. All-push IsCallInRange calls noted (f.range few) (range (omega (arith, f.few)));
              },
              λ below. refl,
            )

            -- the same of what was noted and recorded
            pub notes_so : (c : TraceCall) (cs : List TraceCall) (a : Answer) (y : Recorded) → c ≡ noted → (x.steps < 2 ^ 63 → IsCallInRange c) → cs ≡ calls ++ c ∷ [] → a ≡ given → y ≡ with_answer x a → GoesOn C r cs y
            notes_so c cs a y is_c range is_cs is_a is_y =
                let cs_so : cs ≡ calls ++ noted ∷ [] = is_cs ∙ ap (λ d. calls ++ d ∷ []) is_c in
                let y_so : y ≡ with_answer x given = is_y ∙ ap (with_answer x) is_a in
                rw (cs_so, y_so) (notes (subst (λ d. x.steps < 2 ^ 63 → IsCallInRange d) is_c range))

    -- ---- the whole run

    -- it hasn't ended by the turns of a board
    pub ends_alone : r.end ≢ ended.TurnLimit
    ends_alone is = subst (EndsAs C.system C.deep has.most r.steps (run C.system r.steps C.opening r.answers).state (taken_by C.system r.steps C.opening r.answers)) is has.runs.ends

    module _ (calls : List TraceCall) (x : Recorded) (f : Follows C r calls x) (all : x.steps ≡ r.steps) where
      none_more : f.rest ≡ []
      none_more =
          none_behind (reached C x).left f.rest
          (ap (λ (q : Ran hosts C.system.State). q.left) (sym (over_all x f.rest f.stands f.given)) ∙ ap (λ n. (after C n r.answers).left) all ∙ has.taken)

      all_answers : map (λ (c : TraceCall). c.answer) calls ≡ r.answers
      all_answers = f.answers ∙ sym (f.given ∙ ap (λ l. x.answers ++ l) none_more ∙ append-nil x.answers)

      few_for : (e : TraceEnd) (n : ℕ) → n ≤ most_for n e
      few_for end.StepLimit n = omega arith
      few_for end.Return n = omega arith
      few_for (end.Exit code) n = omega arith
      few_for (end.Trap why) n = omega arith
      few_for end.DepthLimit n = omega arith
      few_for end.HostCallLimit n = omega arith

      ends_for : (e : TraceEnd) (most n : ℕ) (s : States) (taken : List Answer) → EndsAs C.system C.deep most n s taken (run_end e) → EndsAs C.system C.deep (most_for n e) n s taken (run_end e)
      ends_for end.Return most n s taken h = h
      ends_for (end.Exit code) most n s taken h = h
      ends_for (end.Trap why) most n s taken h = h
      ends_for end.StepLimit most n s taken h = (refl, h.1)
      ends_for end.DepthLimit most n s taken h = (omega arith, h.1, h.2)
      ends_for end.HostCallLimit most n s taken h = (omega arith, h.1, h.2)

      module _ (e : TraceEnd) (ends : run_end e ≡ r.end) where
        abbrev whole : Trace
        whole = record { calls = calls; steps = r.steps; end = e }

        abbrev EndsSo : List Answer → Type 0
        EndsSo g = EndsAs C.system C.deep (most_for r.steps e) r.steps (run C.system r.steps C.opening g).state (taken_by C.system r.steps C.opening g) (run_end e)

        ends_so : EndsSo r.answers
        ends_so =
            let at = run C.system r.steps C.opening r.answers in
            let taken = taken_by C.system r.steps C.opening r.answers in
            ends_for e has.most r.steps at.state taken (subst (EndsAs C.system C.deep has.most r.steps at.state taken) (sym ends) has.runs.ends)

        told : IsTraceOf C r whole
        told = record {
          traces = record {
            calls = λ k c at. f.noted k c at whole all_answers;
            made = subst (Makes C.system C.deep C.opening (most_for r.steps e) r.steps) (sym all_answers)
                (record { few = few_for e r.steps; real = has.runs.made.real; free = has.runs.made.free });
            answered = false;
            left = ap (λ g. (after C r.steps g).left) all_answers ∙ has.taken;
            ends = subst EndsSo (sym all_answers) ends_so;
          };
          answers = all_answers;
          steps = refl;
          ends = ends;
        }

        -- its calls are those of a trace of it
        pub is_trace : (t : Trace) → t ≡ whole → IsTraceOf C r t
        is_trace t same = subst (IsTraceOf C r) (sym same) told
