-- A run agrees with a trace up to one call, and with each call of a trace that is its own.
use Rattle.std.proofs.Common.{◌≡◌, ◌≤◌, ◌<◌, ℕ, zero, suc, Bool, true, false, List, [], ◌∷◌, length, drop, slice_get, Some, IsTrue, inl, inr, refl, ap, ◌∙◌, le_refl, arith}
use Rattle.std.specs.Option.{option_map}
use Rattle.std.proofs.lemmas.Bool.{cases_lt, cases_order}
use Rattle.std.proofs.lemmas.Option.{slice_get-map, slice_get_within}
use Rattle.spec_traces.specs.spec_hosts.wasm_form.declared.runtime.Trap.{Trap}
use Rattle.spec_traces.specs.spec_hosts.wasm_form.declared.runtime.Answer.{Answer}
use Rattle.spec_traces.specs.spec_hosts.spec_runs.Systems.{Status, Moving, Waits, Returned, Exited, Trapped, System, Ran, next}
use Rattle.spec_traces.specs.spec_hosts.spec_runtime.Memories.{MemoryInstance}
use Rattle.spec_traces.specs.spec_hosts.spec_runtime.Hosts.{HostCall, hosts, answer_fits}
use Rattle.spec_traces.specs.spec_hosts.spec_runtime.Recorded.{AreLeft}
use Rattle.spec_traces.specs.spec_hosts.spec_runtime.Courses.{Course}
use Rattle.spec_traces.specs.declared.trace.Trace.{Trace}
use Rattle.spec_traces.specs.declared.trace.TraceCall.{TraceCall}
use Rattle.spec_traces.specs.Traces.{answers_of, after, IsAsked, Traces, Agrees, IsAgreeing}
use Rattle.run_loaded.proofs.Growth.{real_front}
use Rattle.replay_check.proofs.Left.{left_shrinks, left_next}

-- ---- lists

-- what stands from a place on
pub drop_at : {A : Type 0} (xs : List A) (k : ℕ) (x : A) → slice_get xs k ≡ Some x → drop k xs ≡ x ∷ drop (suc k) xs
drop_at [] k x e = absurd cc
drop_at (y ∷ xs) zero x e = let same : y ≡ x = cc in ap (λ z. z ∷ xs) same
drop_at (y ∷ xs) (suc k) x e = drop_at xs k x e

at_place : {A : Type 0} (xs : List A) (k : ℕ) → k < length xs → (x : A) × (slice_get xs k ≡ Some x)
at_place [] k lt = absurd (omega arith)
at_place (x ∷ xs) zero lt = (x, refl)
at_place (x ∷ xs) (suc k) lt = at_place xs k (omega arith)

-- ---- a call that is waited for

-- what a call is where it is waited for
pub record IsCall (c : TraceCall) (status : Status HostCall Trap) (memory : MemoryInstance) : Type 0 where
  pub call : HostCall
  pub waits : status ≡ Waits call
  pub fits : IsTrue (answer_fits call memory c.answer)

pub asked_call : (c : TraceCall) (status : Status HostCall Trap) (memory : MemoryInstance) → IsAsked c status memory → IsCall c status memory
asked_call c (Waits call) memory is = record { call = call; waits = refl; fits = is.3 }
asked_call c Moving memory is = absurd is
asked_call c Returned memory is = absurd is
asked_call c (Exited code) memory is = absurd is
asked_call c (Trapped why) memory is = absurd is

module _ (C : Course) (t : Trace) where
  abbrev S : System hosts
  S = C.system

  abbrev given : List Answer
  given = answers_of t

  -- the answer of a call stands at its place
  pub answer_at : (k : ℕ) (c : TraceCall) → slice_get t.calls k ≡ Some c → slice_get given k ≡ Some c.answer
  answer_at k c at = slice_get-map (λ (d : TraceCall). d.answer) t.calls k ∙ ap (option_map (λ (d : TraceCall). d.answer)) at

  pub left_at : (k : ℕ) (c : TraceCall) → slice_get t.calls k ≡ Some c → drop k given ≡ c.answer ∷ drop (suc k) given
  left_at k c at = drop_at given k c.answer (answer_at k c at)

  -- ---- a trace of the run

  module _ (is : Traces C t) (k : ℕ) (c : TraceCall) (at : slice_get t.calls k ≡ Some c) where
    abbrev end : Ran hosts S.State
    end = after C t t.steps

    some_left : length (after C t c.steps).left ≡ suc (length (drop (suc k) given))
    some_left = ap length ((is.calls k c at).left ∙ left_at k c at)

    -- an answer that is left at the end is that to a call which is waited for there
    one_left : t.steps < c.steps → (status : Status HostCall Trap) (left : List Answer) → end.left ≡ left → S.status end.state ≡ status → AreLeft true status (S.memory end.state) left → ⊥
    one_left lt (Waits call) (a ∷ []) e q fits =
        let step : next S end.state end.left ≡ Some (S.take a end.state, []) = rw (q, e, fits) refl in
        let none = ap length (left_next S C.opening given t.steps (S.take a end.state, []) step) in
        let rest = left_shrinks S C.opening given (suc t.steps) c.steps (omega arith) in
        let some = some_left in
        absurd (omega arith)
    one_left lt (Waits call) [] e q fits = absurd fits
    one_left lt (Waits call) (a ∷ b ∷ left) e q fits = absurd fits
    one_left lt Moving left e q fits = absurd fits
    one_left lt Returned left e q fits = absurd fits
    one_left lt (Exited code) left e q fits = absurd fits
    one_left lt (Trapped why) left e q fits = absurd fits

    -- no call is waited for after the end
    above_end : t.steps < c.steps → (answered : Bool) → AreLeft answered (S.status end.state) (S.memory end.state) end.left → ⊥
    above_end lt false none =
        let rest = left_shrinks S C.opening given t.steps c.steps (omega arith) in
        let same = ap length none in
        let some = some_left in
        absurd (omega arith)
    above_end lt true fits = one_left lt (S.status end.state) end.left refl refl fits

    within_end : c.steps ≤ t.steps
    within_end = elim (cases_lt t.steps c.steps) [ inl lt ↦ absurd (above_end lt is.answered is.left) | inr le ↦ le ]

    -- each call agrees
    pub traces_agree : Agrees C t k c
    traces_agree =
        let within = within_end in
        record {
          waited = is.calls k c at;
          made = record {
            few = within;
            real = real_front S c.steps t.steps C.opening given within is.made.real;
            free = λ j lt. is.made.free j (omega arith);
          };
        }

  -- it agrees with all of them
  pub traces_agreeing : Traces C t → IsAgreeing C t (length t.calls)
  traces_agreeing is = record {
    within = le_refl (length t.calls);
    before = λ j c lt at. traces_agree is j c at;
    last = λ c at agrees. (let lt = slice_get_within t.calls (length t.calls) c at in absurd (omega arith));
  }

  -- and is none that it agrees with up to one of them
  pub not_traced : (k : ℕ) → IsAgreeing C t k → k < length t.calls → Traces C t → ⊥
  not_traced k agreeing lt is =
      let c = at_place t.calls k lt in
      agreeing.last c.0 c.1 (traces_agree is k c.0 c.1)

  -- ---- up to one call

  less_agreeing : (k j : ℕ) → IsAgreeing C t k → IsAgreeing C t j → k < j → ⊥
  less_agreeing k j one other lt =
      let within = other.within in
      let c = at_place t.calls k (omega arith) in
      one.last c.0 c.1 (other.before k c.0 lt c.1)

  pub one_agreeing : (k j : ℕ) → IsAgreeing C t k → IsAgreeing C t j → k ≡ j
  one_agreeing k j one other = elim (cases_order k j) [
    | inl same ↦ same
    | inr (inl lt) ↦ absurd (less_agreeing k j one other lt)
    | inr (inr gt) ↦ absurd (less_agreeing j k other one gt)
  ]
