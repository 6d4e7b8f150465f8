-- A run has one trace: what it waits for, and after how many steps, is given by its answers.
use Rattle.std.proofs.Common.{◌≡◌, ◌<◌, ℕ, zero, suc, List, [], ◌∷◌, length, drop, map, slice_get, Some, inl, inr, refl, sym, ap, ◌∙◌, subst, arith}
use Rattle.std.proofs.lemmas.Bool.{cases_order}
use Rattle.std.proofs.lemmas.List.{length-map}
use Rattle.std.proofs.lemmas.Option.{same_Some}
use Rattle.spec_traces.specs.spec_hosts.wasm_form.declared.runtime.Trap.{Trap}
use Rattle.spec_traces.specs.spec_hosts.wasm_form.declared.runtime.Answer.{Answer}
use Rattle.spec_traces.specs.spec_hosts.spec_runs.Systems.{Status, Moving, Waits, Returned, Exited, Trapped, System, Ran, next}
use Rattle.spec_traces.specs.spec_hosts.spec_runtime.Memories.{MemoryInstance}
use Rattle.spec_traces.specs.spec_hosts.spec_runtime.Hosts.{HostCall, hosts}
use Rattle.spec_traces.specs.spec_hosts.spec_runtime.Courses as courses
use Rattle.spec_traces.specs.spec_hosts.spec_runtime.Courses.{Course}
use Rattle.spec_traces.specs.spec_hosts.declared.ran.Ran as ran
use Rattle.spec_traces.specs.spec_hosts.declared.ran.RunEnd.{RunEnd}
use Rattle.spec_traces.specs.spec_hosts.declared.ran.RunEnd.TheVariants as run
use Rattle.spec_traces.specs.declared.trace.Trace.{Trace}
use Rattle.spec_traces.specs.declared.trace.TraceCall.{TraceCall}
use Rattle.spec_traces.specs.declared.trace.TraceEnd.{TraceEnd}
use Rattle.spec_traces.specs.declared.trace.TraceEnd.TheVariants as end
use Rattle.spec_traces.specs.Texts.{run_end}
use Rattle.spec_traces.specs.Traces.{answers_of, after, IsAsked, IsWaited, Traces, IsTraceOf}
use Rattle.replay_check.proofs.Agreeing.{asked_call, answer_at, left_at}
use Rattle.replay_check.proofs.Left.{left_shrinks, left_next}

-- ---- lists that are the same at each place

lists_same : {A : Type 0} (xs ys : List A) → length xs ≡ length ys → ((k : ℕ) (x y : A) → slice_get xs k ≡ Some x → slice_get ys k ≡ Some y → x ≡ y) → xs ≡ ys
lists_same [] [] e each = refl
lists_same [] (y ∷ ys) e each = absurd (omega arith)
lists_same (x ∷ xs) [] e each = absurd (omega arith)
lists_same (x ∷ xs) (y ∷ ys) e each =
    let rest = lists_same xs ys (omega arith) (λ k a b at there. each (suc k) a b at there) in
    let first = each zero x y refl refl in
    λ i. first i ∷ rest i

-- ---- ends

abbrev told_end : RunEnd → TraceEnd
told_end run.Return = end.Return
told_end (run.Exit code) = end.Exit code
told_end (run.Trap why) = end.Trap why
told_end run.StepLimit = end.StepLimit
told_end run.DepthLimit = end.DepthLimit
told_end run.HostCallLimit = end.HostCallLimit
told_end run.TurnLimit = end.Return

told_again : (e : TraceEnd) → told_end (run_end e) ≡ e
told_again end.Return = refl
told_again (end.Exit code) = refl
told_again (end.Trap why) = refl
told_again end.StepLimit = refl
told_again end.DepthLimit = refl
told_again end.HostCallLimit = refl

one_end : (d e : TraceEnd) → run_end d ≡ run_end e → d ≡ e
one_end d e same = sym (told_again d) ∙ ap told_end same ∙ told_again e

-- ---- calls

-- two calls that are waited for at one state, with one answer
same_call : (c d : TraceCall) (status : Status HostCall Trap) (memory : MemoryInstance) → c.steps ≡ d.steps → c.answer ≡ d.answer → IsAsked c status memory → IsAsked d status memory → c ≡ d
same_call c d (Waits call) memory steps answer one other =
    let of_module = sym one.0 ∙ other.0 in
    let name = sym one.1 ∙ other.1 in
    let args = sym one.2 ∙ other.2 in
    λ i. record { steps = steps i; «module» = of_module i; name = name i; args = args i; answer = answer i }
same_call c d Moving memory steps answer one other = absurd one
same_call c d Returned memory steps answer one other = absurd one
same_call c d (Exited code) memory steps answer one other = absurd one
same_call c d (Trapped why) memory steps answer one other = absurd one

module _ (C : Course) (t u : Trace) (given : answers_of u ≡ answers_of t) where
  abbrev S : System hosts
  S = C.system

  abbrev at : ℕ → Ran hosts S.State
  at n = after C t n

  -- a call of the other is waited for by the same run
  waited : (k : ℕ) (d : TraceCall) → IsWaited C u k d → IsAsked d (S.status (at d.steps).state) (S.memory (at d.steps).state) × ((at d.steps).left ≡ drop k (answers_of t))
  waited k d is =
      subst (λ (answers : List Answer). IsAsked d (S.status (courses.after C d.steps answers).state) (S.memory (courses.after C d.steps answers).state) × ((courses.after C d.steps answers).left ≡ drop k answers)) given
      (is.asked, is.left)

  -- after a call that is waited for its answer isn't left
  waits_once : (k m : ℕ) (c : TraceCall) → slice_get t.calls k ≡ Some c → IsWaited C t k c → c.steps < m → (at m).left ≡ drop k (answers_of t) → ⊥
  waits_once k m c there is lt left =
      let here = (at c.steps).left in
      let s = (at c.steps).state in
      let call = asked_call c (S.status s) (S.memory s) is.asked in
      let same : here ≡ c.answer ∷ drop (suc k) (answers_of t) = is.left ∙ left_at C t k c there in
      let step : next S s here ≡ Some (S.take c.answer s, drop (suc k) (answers_of t)) = rw (call.waits, same, call.fits) refl in
      let fewer = ap length (left_next S C.opening (answers_of t) c.steps (S.take c.answer s, drop (suc k) (answers_of t)) step) in
      let rest = left_shrinks S C.opening (answers_of t) (suc c.steps) m (omega arith) in
      let as_many = ap length (left ∙ left_at C t k c there) in
      absurd (omega arith)

pub one_trace : (C : Course) (r : ran.Ran) (t u : Trace) → IsTraceOf C r t → IsTraceOf C r u → t ≡ u
one_trace C r t u is other =
    let given : answers_of u ≡ answers_of t = other.answers ∙ sym is.answers in
    let count : length t.calls ≡ length u.calls =
    sym (length-map t.calls (λ (c : TraceCall). c.answer)) ∙ ap length (sym given) ∙ length-map u.calls (λ (c : TraceCall). c.answer)
    in
    let calls : t.calls ≡ u.calls = lists_same t.calls u.calls count (each given) in
    let steps : t.steps ≡ u.steps = is.steps ∙ sym other.steps in
    let ends : t.end ≡ u.end = one_end t.end u.end (is.ends ∙ sym other.ends) in
    λ i. record { calls = calls i; steps = steps i; end = ends i }
  where
    later : (given : answers_of u ≡ answers_of t) → (k : ℕ) (c : TraceCall) → IsWaited C t k c → (after C u c.steps).left ≡ drop k (answers_of u)
    later given k c one = (waited C u t (sym given) k c one).1

    each : answers_of u ≡ answers_of t → (k : ℕ) (c d : TraceCall) → slice_get t.calls k ≡ Some c → slice_get u.calls k ≡ Some d → c ≡ d
    each given k c d there here =
        let one = is.traces.calls k c there in
        let more = waited C t u given k d (other.traces.calls k d here) in
        let answer : c.answer ≡ d.answer = same_Some c.answer d.answer (sym (answer_at C t k c there) ∙ ap (λ (l : List Answer). slice_get l k) (sym given) ∙ answer_at C u k d here) in
        let steps : c.steps ≡ d.steps = elim (cases_order c.steps d.steps) [
          | inl same ↦ same
          | inr (inl lt) ↦ absurd (waits_once C t u given k d.steps c there one lt more.1)
          | inr (inr gt) ↦ absurd (waits_once C u t (sym given) k c.steps d here (other.traces.calls k d here) gt (later given k c one))
        ] in
        same_call c d (C.system.status (after C t c.steps).state) (C.system.memory (after C t c.steps).state) steps answer one.asked
        (subst (λ n. IsAsked d (C.system.status (after C t n).state) (C.system.memory (after C t n).state)) (sym steps) more.0)
