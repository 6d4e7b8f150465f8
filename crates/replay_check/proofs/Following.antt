-- A run that has followed a trace: where it stands over all answers, and how it comes further.
use Rattle.std.proofs.Common.{◌≡◌, ◌≤◌, ◌<◌, ℕ, zero, suc, ◌-◌, true, false, List, [], ◌∷◌, ◌++◌, length, take, drop, slice_get, Option, Some, None, inl, inr, refl, sym, ap, ◌∙◌, subst, le_refl, arith}
use Rattle.std.proofs.lemmas.Bool.{cases_lt}
use Rattle.std.proofs.lemmas.List.{length-drop, take-append-drop, take_all}
use Rattle.std.proofs.lemmas.Option.{same_Some, slice_get_within}
use Rattle.spec_traces.specs.spec_hosts.wasm_form.declared.runtime.Trap.{Trap}
use Rattle.spec_traces.specs.spec_hosts.wasm_form.declared.runtime.Answer.{Answer}
use Rattle.spec_traces.specs.spec_hosts.wasm_form.declared.runtime.Asked.{Asked}
use Rattle.spec_traces.specs.spec_hosts.spec_runs.Systems.{Status, Moving, Waits, Returned, Exited, Trapped, System, Ran, run, IsReal}
use Rattle.spec_traces.specs.spec_hosts.spec_runtime.Hosts.{HostCall, hosts}
use Rattle.spec_traces.specs.spec_hosts.spec_runtime.Recorded.{Recorded, waits}
use Rattle.spec_traces.specs.spec_hosts.spec_runtime.Courses as courses
use Rattle.spec_traces.specs.spec_hosts.spec_runtime.Courses.{Course, reached, state_at, status_at, memory_at, IsAt, with_answer, with_step}
use Rattle.spec_traces.specs.spec_hosts.Ends.{are_many, taken_of, taken_by, is_due}
use Rattle.spec_traces.specs.declared.trace.Trace.{Trace}
use Rattle.spec_traces.specs.declared.trace.TraceCall.{TraceCall}
use Rattle.spec_traces.specs.Traces.{answers_of, after, IsAsked, Agrees}
use Rattle.wasm_machine.specs.Steps.{Advances, AreOfCode, Awaits}
use Rattle.spec_loading.proofs.of_spec_runtime.Recorded.{unanswered_left}
use Rattle.wasm_machine.proofs.Courses.{at_recorded}
use Rattle.run_loaded.proofs.of_spec_runs.Runs.{run_append, real_append}
use Rattle.run_loaded.proofs.Growth.{real_front}
use Rattle.replay_check.specs.Following.{IsAskedOf, HasFollowed, is_held}
use Rattle.replay_check.proofs.Agreeing.{answer_at, asked_call}

-- ---- lists

-- the answers that were taken of those that are given, where so many were
taken_drop : (k : ℕ) (given : List Answer) → taken_of given (drop k given) ≡ take k given
taken_drop k given = elim (cases_lt k (length given)) [
  | inl under ↦ let n : length given - length (drop k given) ≡ k = omega (arith, length-drop k given) in ap (λ n. take n given) n
  | inr over ↦
      let n : length given - length (drop k given) ≡ length given = omega (arith, length-drop k given) in
      ap (λ n. take n given) n ∙ take_all (length given) given (le_refl (length given)) ∙ sym (take_all k given over)
]

take_at : {A : Type 0} (xs : List A) (k : ℕ) (x : A) → slice_get xs k ≡ Some x → take (suc k) xs ≡ take k xs ++ x ∷ []
take_at [] k x e = absurd cc
take_at (y ∷ xs) zero x e = let same : y ≡ x = cc in ap (λ z. z ∷ []) same
take_at (y ∷ xs) (suc k) x e = ap (λ zs. y ∷ zs) (take_at xs k x e)

-- ---- limits

module _ (C : Course) where
  -- none is due before a step of its own that isn't too deep
  flat_free : (s : C.system.State) (given : List Answer) → C.system.status s ≡ Moving → C.deep s ≡ false → is_due C.system C.deep s given ≡ false
  flat_free s given moving flat = rw (moving, is_due) flat

  -- a step of its own isn't made where it is too deep
  pub held_due : (s : C.system.State) (given : List Answer) → C.system.status s ≡ Moving → is_held C s ≡ is_due C.system C.deep s given
  held_due s given moving = rw (moving, is_held) refl

  -- nor where the run waits or has ended
  pub held_still : (s : C.system.State) → (C.system.status s ≡ Moving → ⊥) → is_held C s ≡ true
  held_still s isnt = by (C.system.status s) refl
    where
      by : (status : Status HostCall Trap) → C.system.status s ≡ status → is_held C s ≡ true
      by Moving e = absurd (isnt e)
      by (Waits call) e = rw (e, is_held) refl
      by Returned e = rw (e, is_held) refl
      by (Exited code) e = rw (e, is_held) refl
      by (Trapped why) e = rw (e, is_held) refl

  -- before a wait, what is due is the limit of answers
  pub wait_due : (s : C.system.State) (given : List Answer) (call : HostCall) → C.system.status s ≡ Waits call → is_due C.system C.deep s given ≡ are_many given
  wait_due s given call waits = rw (waits, is_due) refl

-- ---- where it stands

module _ (C : Course) (t : Trace) where
  abbrev S : System hosts
  S = C.system

  abbrev given : List Answer
  given = answers_of t

  -- over all answers of a trace the steps over the first ones lead to the same states
  over_all : (k n : ℕ) → IsReal S n C.opening (take k given)
      → after C t n ≡ (let r = run S n C.opening (take k given) in record r { left = r.left ++ drop k given })
  over_all k n real =
      subst (λ all. run S n C.opening all ≡ (let r = run S n C.opening (take k given) in record r { left = r.left ++ drop k given }))
      (take-append-drop k given) (run_append S n C.opening (take k given) (drop k given) real)

  same_state : (k n : ℕ) → IsReal S n C.opening (take k given) → (after C t n).state ≡ (courses.after C n (take k given)).state
  same_state k n real = ap (λ (r : Ran hosts S.State). r.state) (over_all k n real)

  module _ (k : ℕ) (x : Recorded) (f : HasFollowed C t k x) where
    real_first : IsReal S x.steps C.opening (take k given)
    real_first = subst (IsReal S x.steps C.opening) f.answers f.stands.real

    pub real_all : IsReal S x.steps C.opening given
    real_all = subst (IsReal S x.steps C.opening) (take-append-drop k given) (real_append S x.steps C.opening (take k given) (drop k given) real_first)

    pub none_left : (reached C x).left ≡ []
    none_left = unanswered_left x.answered (status_at C x) (memory_at C x) (reached C x).left f.stands.left f.taken

    pub state_here : (after C t x.steps).state ≡ state_at C x
    state_here = same_state k x.steps real_first ∙ ap (λ given. (courses.after C x.steps given).state) (sym f.answers)

    pub left_here : (after C t x.steps).left ≡ drop k given
    left_here =
        ap (λ (r : Ran hosts S.State). r.left) (over_all k x.steps real_first)
        ∙ ap (λ given. (courses.after C x.steps given).left ++ drop k (answers_of t)) (sym f.answers)
        ∙ ap (λ left. left ++ drop k given) none_left

    pub taken_here : taken_by S x.steps C.opening given ≡ x.answers
    taken_here = ap (taken_of given) left_here ∙ taken_drop k given ∙ sym f.answers

    -- what is due there
    pub due_here : is_due S C.deep (after C t x.steps).state (taken_by S x.steps C.opening given) ≡ is_due S C.deep (state_at C x) x.answers
    due_here =
        ap (λ s. is_due S C.deep s (taken_by S x.steps C.opening given)) state_here
        ∙ ap (is_due S C.deep (state_at C x)) taken_here

    -- ---- the next call

    -- the calls that agree, with the next one
    pub agrees_more : (c : TraceCall) → slice_get t.calls k ≡ Some c → Agrees C t k c → (j : ℕ) (d : TraceCall) → j < suc k → slice_get t.calls j ≡ Some d → Agrees C t j d
    agrees_more c at agrees j d lt there = elim (cases_lt j k) [
      | inl under ↦ f.agrees j d under there
      | inr over ↦
          let same : k ≡ j = omega arith in
          let one : c ≡ d = same_Some c d (sym at ∙ ap (slice_get t.calls) same ∙ there) in
          subst (λ j. Agrees C t j d) same (subst (Agrees C t k) one agrees)
    ]

    module _ (c : TraceCall) (at : slice_get t.calls k ≡ Some c) (here : x.steps ≡ c.steps) where
      -- it agrees where it is waited for
      pub agrees_here : c.steps ≤ t.steps → IsAsked c (status_at C x) (memory_at C x) → Agrees C t k c
      agrees_here few is = record {
        waited = record {
          asked = subst (λ n. IsAsked c (S.status (after C t n).state) (S.memory (after C t n).state)) here
              (subst (λ s. IsAsked c (S.status s) (S.memory s)) (sym state_here) is);
          left = ap (λ n. (after C t n).left) (sym here) ∙ left_here;
        };
        made = record {
          few = few;
          real = subst (λ n. IsReal S n C.opening given) here real_all;
          free = λ j lt. f.free j (omega arith);
        };
      }

      -- and is waited for where it agrees
      pub asked_here : Agrees C t k c → IsAsked c (status_at C x) (memory_at C x)
      asked_here agrees =
          subst (λ s. IsAsked c (S.status s) (S.memory s)) state_here
          (subst (λ n. IsAsked c (S.status (after C t n).state) (S.memory (after C t n).state)) (sym here) agrees.waited.asked)

      -- its answer is one that the wait takes
      pub awaits_here : Agrees C t k c → Awaits C x c.answer
      awaits_here agrees =
          let call = asked_call c (status_at C x) (memory_at C x) (asked_here agrees) in
          (f.taken, f.stands.found, rw call.waits call.fits)

      abbrev answered : Recorded
      answered = with_answer x c.answer

      -- the run stands there with its answer too
      pub state_answered : Agrees C t k c → state_at C answered ≡ state_at C x
      state_answered agrees =
          let call = asked_call c (status_at C x) (memory_at C x) (asked_here agrees) in
          (at_recorded C x f.stands call.call c.answer f.taken call.waits call.fits).1

      -- and goes on from there by a step that takes it
      pub has_taken : Agrees C t k c → is_due S C.deep (state_at C x) x.answers ≡ false → IsAt C (with_step answered) → HasFollowed C t (suc k) (with_step answered)
      has_taken agrees room stands = record {
        stands = stands;
        taken = refl;
        within = slice_get_within t.calls k c at;
        answers = ap (λ given. given ++ c.answer ∷ []) f.answers ∙ sym (take_at given k c.answer (answer_at C t k c at));
        agrees = agrees_more c at agrees;
        free = λ j lt. elim (cases_lt j x.steps) [
          | inl under ↦ f.free j under
          | inr over ↦
              let same : x.steps ≡ j = omega arith in
              subst (λ j. is_due S C.deep (after C t j).state (taken_by S j C.opening given) ≡ false) same (due_here ∙ room)
        ];
      }

    -- ---- steps of its own

    abbrev stepped : Recorded
    stepped = with_step x

    -- one step more
    pub has_stepped : status_at C x ≡ Moving → C.deep (state_at C x) ≡ false → IsAt C stepped → HasFollowed C t k stepped
    has_stepped moving flat stands = record {
      stands = stands;
      taken = refl;
      within = f.within;
      answers = f.answers;
      agrees = f.agrees;
      free = λ j lt. elim (cases_lt j x.steps) [
        | inl under ↦ f.free j under
        | inr over ↦
            let same : x.steps ≡ j = omega arith in
            subst (λ j. is_due S C.deep (after C t j).state (taken_by S j C.opening given) ≡ false) same (due_here ∙ flat_free C (state_at C x) x.answers moving flat)
      ];
    }

    -- steps of code
    module _ (n : ℕ) (stands : IsAt C (record x { steps = n; lost = false })) (code : AreOfCode C x (record x { steps = n; lost = false })) where
      abbrev further : Recorded
      further = record x { steps = n; lost = false }

      code_free : (j : ℕ) → x.steps ≤ j → j < n → is_due S C.deep (after C t j).state (taken_by S j C.opening given) ≡ false
      code_free j above below =
          let of_code = code.free j above below in
          let same : (after C t j).state ≡ (courses.after C j x.answers).state =
          same_state k j (real_front S j n C.opening (take k given) (omega arith) (subst (IsReal S n C.opening) f.answers stands.real))
          ∙ ap (λ given. (courses.after C j given).state) (sym f.answers) in
          ap (λ s. is_due S C.deep s (taken_by S j C.opening given)) same
          ∙ flat_free C (courses.after C j x.answers).state (taken_by S j C.opening given) of_code.0 of_code.1

      has_gone : HasFollowed C t k further
      has_gone = record {
        stands = stands;
        taken = f.taken;
        within = f.within;
        answers = f.answers;
        agrees = f.agrees;
        free = λ j lt. elim (cases_lt j x.steps) [ inl under ↦ f.free j under | inr over ↦ code_free j over lt ];
      }

      -- what was asked
      asked_on : x.steps ≤ n → (asked : Option Asked) → IsAskedOf C.host (status_at C x) asked → IsAskedOf C.host (status_at C further) asked
      asked_on more asked asks = elim (cases_lt x.steps n) [
        | inl lt ↦ moved asked asks (code.free x.steps (le_refl x.steps) lt).0 (code.unasked lt)
        | inr ge ↦ let same : x.steps ≡ n = omega arith in subst (λ n. IsAskedOf C.host (S.status (courses.after C n x.answers).state) asked) same asks
      ]
        where
          moved : (asked : Option Asked) → IsAskedOf C.host (status_at C x) asked → status_at C x ≡ Moving → waits (status_at C further) ≡ false → IsAskedOf C.host (status_at C further) asked
          moved None asks moving still = still
          moved (Some asked) asks moving still = absurd (rw moving at asks)

    pub has_advanced : (most : ℕ) (new : Recorded) → Advances most x new → AreOfCode C x new → new.lost ≡ false → IsAt C new
        → HasFollowed C t k new × ((asked : Option Asked) → IsAskedOf C.host (status_at C x) asked → IsAskedOf C.host (status_at C new) asked)
    has_advanced most new advances code found stands =
        let same : new ≡ record x { steps = new.steps; lost = false } = advances.same ∙ (λ i. record x { steps = new.steps; lost = found i }) in
        let stands' = subst (IsAt C) same stands in
        let code' = subst (AreOfCode C x) same code in
        subst (λ y. HasFollowed C t k y × ((asked : Option Asked) → IsAskedOf C.host (status_at C x) asked → IsAskedOf C.host (status_at C y) asked)) (sym same)
        (has_gone new.steps stands' code', asked_on new.steps stands' code' advances.more)
