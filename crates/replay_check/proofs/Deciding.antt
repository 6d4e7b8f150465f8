-- What a run that follows a trace tells of it: with which calls it agrees, and whether it is that of the trace.
use Rattle.std.proofs.Common.{◌≡◌, ◌≤◌, ◌<◌, ℕ, suc, Bool, true, false, true≢false, List, [], ◌∷◌, length, drop, slice_get, Some, None, ◌⊎◌, inl, inr, refl, sym, ap, ◌∙◌, subst, le_refl, arith}
use Rattle.std.proofs.lemmas.Bool.{cases_lt}
use Rattle.std.proofs.lemmas.List.{length-drop, length-map, drop_all}
use Rattle.std.proofs.lemmas.Option.{same_Some, slice_get_within}
use Rattle.spec_traces.specs.spec_hosts.wasm_form.declared.runtime.Trap.{Trap}
use Rattle.spec_traces.specs.spec_hosts.wasm_form.declared.runtime.Answer.{Answer}
use Rattle.spec_traces.specs.spec_hosts.spec_runs.Systems.{Status, Moving, Waits, Returned, Exited, Trapped, System, next_at, next, IsReal}
use Rattle.spec_traces.specs.spec_hosts.spec_runtime.Hosts.{HostCall, hosts}
use Rattle.spec_traces.specs.spec_hosts.spec_runtime.Recorded.{Recorded, AreLeft}
use Rattle.spec_traces.specs.spec_hosts.spec_runtime.Courses.{Course, state_at, status_at, memory_at}
use Rattle.spec_traces.specs.spec_hosts.Ends.{is_due, taken_by, EndsAs}
use Rattle.spec_traces.specs.declared.trace.Trace.{Trace}
use Rattle.spec_traces.specs.declared.trace.TraceCall.{TraceCall}
use Rattle.spec_traces.specs.declared.trace.TraceEnd.{TraceEnd}
use Rattle.spec_traces.specs.declared.trace.TraceEnd.TheVariants as told
use Rattle.spec_traces.specs.Texts.{run_end}
use Rattle.spec_traces.specs.Traces.{answers_of, after, most_for, Traces, Agrees, IsAgreeing}
use Rattle.run_loaded.proofs.of_spec_runs.Runs.{real_split}
use Rattle.run_loaded.proofs.Growth.{real_front}
use Rattle.replay_check.specs.Following.{HasFollowed, is_held}
use Rattle.replay_check.proofs.Left.{left_shrinks, passed}
use Rattle.replay_check.proofs.Agreeing.{left_at, asked_call}
use Rattle.replay_check.proofs.Following.{held_due, agrees_more, real_all, state_here, left_here, taken_here, due_here, asked_here}

-- as many answers as calls
many_answers : (t : Trace) → length (answers_of t) ≡ length t.calls
many_answers t = length-map t.calls (λ (c : TraceCall). c.answer)

module _ (C : Course) (t : Trace) (k : ℕ) (x : Recorded) (f : HasFollowed C t k x) where
  abbrev S : System hosts
  S = C.system

  abbrev given : List Answer
  given = answers_of t

  status_here : S.status (after C t x.steps).state ≡ status_at C x
  status_here = ap S.status (state_here C t k x f)

  -- where more steps are real ones, before none of which a limit is due, a run that makes no step of its own waits
  held_waits : (m : ℕ) → x.steps < m → IsReal S m C.opening given → is_due S C.deep (after C t x.steps).state (taken_by S x.steps C.opening given) ≡ false
      → is_held C (state_at C x) ≡ true → (call : HostCall) × (S.status (after C t x.steps).state ≡ Waits call)
  held_waits m lt real free held = by (status_at C x) refl
    where
      none_at : (status : Status HostCall Trap) → status_at C x ≡ status → next_at S status (after C t x.steps).state (after C t x.steps).left ≡ None → ⊥
      none_at status e none =
          let step = (real_split S x.steps C.opening given (real_front S (suc x.steps) m C.opening given (omega arith) real)).1 in
          let stays : next S (after C t x.steps).state (after C t x.steps).left ≡ None =
          ap (λ status. next_at S status (after C t x.steps).state (after C t x.steps).left) (status_here ∙ e) ∙ none in
          let bad : Some step.0 ≡ None = sym step.1 ∙ stays in
          absurd cc

      by : (status : Status HostCall Trap) → status_at C x ≡ status → (call : HostCall) × (S.status (after C t x.steps).state ≡ Waits call)
      by Moving e = absurd (true≢false (sym held ∙ held_due C (state_at C x) x.answers e ∙ sym (due_here C t k x f) ∙ free))
      by (Waits call) e = (call, status_here ∙ e)
      by Returned e = absurd (none_at Returned e refl)
      by (Exited code) e = absurd (none_at (Exited code) e refl)
      by (Trapped why) e = absurd (none_at (Trapped why) e refl)

  -- ---- a call that doesn't agree

  -- its steps are more than those of the trace
  pub not_above : (j : ℕ) (c : TraceCall) → t.steps < c.steps → Agrees C t j c → ⊥
  not_above j c lt agrees =
      let few = agrees.made.few in
      absurd (omega arith)

  module _ (c : TraceCall) (at : slice_get t.calls k ≡ Some c) (agrees : Agrees C t k c) where
    -- they are behind already
    pub not_behind : c.steps < x.steps → ⊥
    not_behind lt =
        let call = asked_call c (S.status (after C t c.steps).state) (S.memory (after C t c.steps).state) agrees.waited.asked in
        let fewer = passed S C.opening given c.steps x.steps call.call lt (real_all C t k x f) call.waits in
        let one = ap length agrees.waited.left in
        let two = ap length (left_here C t k x f) in
        absurd (omega arith)

    -- the run makes no step of its own before its wait
    pub not_held : x.steps < c.steps → is_held C (state_at C x) ≡ true → ⊥
    not_held lt held =
        let call = held_waits c.steps lt agrees.made.real (agrees.made.free x.steps lt) held in
        let fewer = passed S C.opening given x.steps c.steps call.0 lt agrees.made.real call.1 in
        let one = ap length agrees.waited.left in
        let two = ap length (left_here C t k x f) in
        absurd (omega arith)

  -- the run goes no further, and a call before it isn't answered
  pub not_further : (j : ℕ) (c : TraceCall) → k < j → slice_get t.calls j ≡ Some c → (t.steps ≤ x.steps) ⊎ (is_due S C.deep (state_at C x) x.answers ≡ true) → Agrees C t j c → ⊥
  not_further j c lt at stops agrees = elim (cases_lt x.steps c.steps) [
    | inl more ↦ further stops more
    | inr less ↦
        let within = slice_get_within t.calls j c at in
        let rest = left_shrinks S C.opening given c.steps x.steps less in
        let one = ap length agrees.waited.left in
        let two = ap length (left_here C t k x f) in
        absurd (omega (arith, length-drop k given, length-drop j given, many_answers t))
  ]
    where
      further : (t.steps ≤ x.steps) ⊎ (is_due S C.deep (state_at C x) x.answers ≡ true) → x.steps < c.steps → ⊥
      further (inl all) more =
          let few = agrees.made.few in
          absurd (omega arith)
      further (inr due) more = true≢false (sym due ∙ sym (due_here C t k x f) ∙ agrees.made.free x.steps more)

  -- ---- with how many calls it agrees

  -- up to the next one, which doesn't
  pub agreeing_here : (c : TraceCall) → slice_get t.calls k ≡ Some c → (Agrees C t k c → ⊥) → IsAgreeing C t k
  agreeing_here c at isnt = record {
    within = f.within;
    before = f.agrees;
    last = λ d there agrees. isnt (subst (Agrees C t k) (same_Some d c (sym there ∙ at)) agrees);
  }

  -- with the next one, from where it goes no further
  pub agreeing_next : (c : TraceCall) → slice_get t.calls k ≡ Some c → Agrees C t k c → (t.steps ≤ x.steps) ⊎ (is_due S C.deep (state_at C x) x.answers ≡ true) → IsAgreeing C t (suc k)
  agreeing_next c at agrees stops = record {
    within = slice_get_within t.calls k c at;
    before = agrees_more C t k x f c at agrees;
    last = λ d there. not_further (suc k) d (omega arith) there stops;
  }

  -- with all
  pub agreeing_all : k ≡ length t.calls → IsAgreeing C t k
  agreeing_all all = record {
    within = f.within;
    before = f.agrees;
    last = λ d there agrees. (let lt = slice_get_within t.calls k d there in absurd (omega arith));
  }

  -- ---- what is left

  -- nothing, where all calls are answered
  pub none_over : k ≡ length t.calls → drop k given ≡ []
  none_over all = drop_all k given (omega (arith, many_answers t))

  -- the answer to the last call, which is waited for
  pub one_over : (c : TraceCall) → slice_get t.calls k ≡ Some c → x.steps ≡ c.steps → Agrees C t k c → suc k ≡ length t.calls
      → AreLeft true (status_at C x) (memory_at C x) (drop k given)
  one_over c at here agrees last =
      let call = asked_call c (status_at C x) (memory_at C x) (asked_here C t k x f c at here agrees) in
      let one : drop k given ≡ c.answer ∷ [] = left_at C t k c at ∙ ap (λ rest. c.answer ∷ rest) (drop_all (suc k) given (omega (arith, many_answers t))) in
      subst (AreLeft true (status_at C x) (memory_at C x)) (sym one) (rw call.waits call.fits)

-- ---- the end of a trace

-- the steps of a trace are allowed
most_more : (n : ℕ) (e : TraceEnd) → n ≤ most_for n e
most_more n told.StepLimit = le_refl n
most_more n told.Return = omega arith
most_more n (told.Exit code) = omega arith
most_more n (told.Trap why) = omega arith
most_more n told.DepthLimit = omega arith
most_more n told.HostCallLimit = omega arith

-- A run that met all calls of a trace, and further steps of its own to another place.
module _ (C : Course) (t : Trace) (k : ℕ) (x : Recorded) (f : HasFollowed C t k x) (few : x.steps ≤ t.steps)
    (each : (j : ℕ) (c : TraceCall) → slice_get t.calls j ≡ Some c → Agrees C t j c)
    (y : Recorded) (g : HasFollowed C t k y) (more : x.steps ≤ y.steps) where
  abbrev T : System hosts
  T = C.system

  -- it goes no further from where the last call is waited for
  abbrev StaysIf : Bool → Type 0
  StaysIf answered = answered ≡ true → (x.steps ≡ t.steps) ⊎ (is_due T C.deep (state_at C x) x.answers ≡ true)

  -- two places after as many steps are one
  same_place : x.steps ≡ y.steps → state_at C x ≡ state_at C y
  same_place same = sym (state_here C t k x f) ∙ ap (λ n. (after C t n).state) same ∙ state_here C t k y g

  stays : y.steps ≤ t.steps → (x.steps ≡ t.steps) ⊎ (is_due T C.deep (state_at C x) x.answers ≡ true) → x.steps ≡ y.steps
  stays few (inl all) = omega arith
  stays few (inr due) = elim (cases_lt x.steps y.steps) [
    | inl lt ↦ absurd (true≢false (sym due ∙ sym (due_here C t k x f) ∙ g.free x.steps lt))
    | inr ge ↦ omega arith
  ]

  left_there : y.steps ≤ t.steps → (answered : Bool) → StaysIf answered → AreLeft answered (status_at C x) (memory_at C x) (drop k (answers_of t)) → AreLeft answered (status_at C y) (memory_at C y) (drop k (answers_of t))
  left_there all false last left = left
  left_there all true last left = subst (λ s. AreLeft true (T.status s) (T.memory s) (drop k (answers_of t))) (same_place (stays all (last refl))) left

  -- ---- after all steps

  module _ (all : y.steps ≡ t.steps) where
    abbrev EndsAt : ℕ → T.State → List Answer → Type 0
    EndsAt n s taken = EndsAs T C.deep (most_for n t.end) n s taken (run_end t.end)

    abbrev EndsHere : ℕ → Type 0
    EndsHere n = EndsAt n (after C t n).state (taken_by T n C.opening (answers_of t))

    ends_there : EndsAt y.steps (state_at C y) y.answers → EndsHere t.steps
    ends_there ends =
        subst EndsHere all
        (subst (EndsAt y.steps (after C t y.steps).state) (sym (taken_here C t k y g)) (subst (λ s. EndsAt y.steps s y.answers) (sym (state_here C t k y g)) ends))

    ends_here : EndsHere t.steps → EndsAt y.steps (state_at C y) y.answers
    ends_here ends =
        subst (λ s. EndsAt y.steps s y.answers) (state_here C t k y g)
        (subst (EndsAt y.steps (after C t y.steps).state) (taken_here C t k y g) (subst EndsHere (sym all) ends))

    -- it is a trace of the run, where this ends so
    pub is_traced : (answered : Bool) → AreLeft answered (status_at C x) (memory_at C x) (drop k (answers_of t)) → StaysIf answered → EndsAt y.steps (state_at C y) y.answers → Traces C t
    is_traced answered left last ends = record {
      calls = λ j c at. (each j c at).waited;
      made = record {
        few = most_more t.steps t.end;
        real = subst (λ n. IsReal T n C.opening (answers_of t)) all (real_all C t k y g);
        free = λ j lt. g.free j (omega arith);
      };
      answered = answered;
      left =
          let there = left_there (omega arith) answered last left in
          let here = subst (λ s. AreLeft answered (T.status s) (T.memory s) (drop k (answers_of t))) (sym (state_here C t k y g)) there in
          let over = subst (AreLeft answered (T.status (after C t y.steps).state) (T.memory (after C t y.steps).state)) (sym (left_here C t k y g)) here in
          subst (λ n. AreLeft answered (T.status (after C t n).state) (T.memory (after C t n).state) (after C t n).left) all over;
      ends = ends_there ends;
    }

    -- and ends so in a trace of the run
    pub ends_so : Traces C t → EndsAt y.steps (state_at C y) y.answers
    ends_so is = ends_here is.ends

  -- it is none, where the run makes no step of its own before
  pub is_held_short : (answered : Bool) → AreLeft answered (status_at C x) (memory_at C x) (drop k (answers_of t)) → StaysIf answered → y.steps < t.steps → is_held C (state_at C y) ≡ true → Traces C t → ⊥
  is_held_short answered left last lt held is = by answered left last
    where
      by : (answered : Bool) → AreLeft answered (status_at C x) (memory_at C x) (drop k (answers_of t)) → StaysIf answered → ⊥
      by false left last =
          let call = held_waits C t k y g t.steps lt is.made.real (is.made.free y.steps lt) held in
          let fewer = passed T C.opening (answers_of t) y.steps t.steps call.0 lt is.made.real call.1 in
          let none = ap length (left_here C t k y g ∙ left) in
          absurd (omega arith)
      by true left last = elim (last refl) [
        | inl all ↦ absurd (omega arith)
        | inr due ↦ true≢false (sym due ∙ sym (due_here C t k x f) ∙ is.made.free x.steps (omega arith))
      ]
