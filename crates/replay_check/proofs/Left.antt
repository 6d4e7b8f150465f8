-- The answers that a run leaves: never more than before, and fewer once a wait is passed.
use Rattle.std.proofs.Common.{◌≡◌, ◌≤◌, ◌<◌, ℕ, zero, suc, ◌+◌, ◌-◌, List, [], ◌∷◌, length, Option, Some, None, refl, sym, ap, ◌∙◌, subst, arith}
use Rattle.spec_traces.specs.spec_hosts.wasm_form.declared.runtime.Trap.{Trap}
use Rattle.spec_traces.specs.spec_hosts.wasm_form.declared.runtime.Answer.{Answer}
use Rattle.spec_traces.specs.spec_hosts.spec_runs.Systems.{Status, Moving, Waits, Returned, Exited, Trapped, System, Ran, with_rest, only_if, next_at, next, run, with_next, IsReal}
use Rattle.spec_traces.specs.spec_hosts.spec_runtime.Hosts.{HostCall, hosts, answer_fits}
use Rattle.run_loaded.proofs.of_spec_runs.Runs.{run_last, real_split}
use Rattle.run_loaded.proofs.Growth.{real_front}

-- ---- one step

left_less : {X A : Type 0} (o : Option X) (rest : List A) (x : X × List A) → with_rest rest o ≡ Some x → length x.1 ≡ length rest
left_less None rest x e = absurd cc
left_less (Some y) rest x e = let same : rest ≡ x.1 = cc in ap length (sym same)

-- a wait takes the next answer, or stays
wait_left : (S : System hosts) (call : HostCall) (s : S.State) (left : List Answer) (x : S.State × List Answer) → next_at S (Waits call) s left ≡ Some x → length x.1 < length left
wait_left S call s [] x e = absurd cc
wait_left S call s (a ∷ left) x e =
    let same = left_less (only_if (answer_fits call (S.memory s) a) (S.take a s)) left x e in
    omega arith

next_left : (S : System hosts) (status : Status HostCall Trap) (s : S.State) (left : List Answer) (x : S.State × List Answer) → next_at S status s left ≡ Some x
    → length x.1 ≤ length left
next_left S Moving s left x e =
    let same = left_less (S.step s) left x e in
    omega arith
next_left S (Waits call) s left x e =
    let fewer = wait_left S call s left x e in
    omega arith
next_left S Returned s left x e = absurd cc
next_left S (Exited code) s left x e = absurd cc
next_left S (Trapped why) s left x e = absurd cc

-- ---- a run

module _ (S : System hosts) (s0 : S.State) (given : List Answer) where
  abbrev R : ℕ → Ran hosts S.State
  R n = run S n s0 given

  abbrev next_of : ℕ → Option (S.State × List Answer)
  next_of n = next S (R n).state (R n).left

  one_on : (n : ℕ) → R (suc n) ≡ with_next S (R n) (next_of n)
  one_on n = run_last S n s0 given

  one_left : (n : ℕ) → length (R (suc n)).left ≤ length (R n).left
  one_left n = subst (λ (q : Ran hosts S.State). length q.left ≤ length (R n).left) (sym (one_on n)) (go (next_of n) refl)
    where
      go : (o : Option (S.State × List Answer)) → next_of n ≡ o → length (with_next S (R n) o).left ≤ length (R n).left
      go None q = omega arith
      go (Some x) q = next_left S (S.status (R n).state) (R n).state (R n).left x q

  more_left : (n k : ℕ) → length (R (n + k)).left ≤ length (R n).left
  more_left n zero = let e : n + 0 ≡ n = omega arith in subst (λ j. length (R j).left ≤ length (R n).left) (sym e) (omega arith)
  more_left n (suc k) =
      let e : n + suc k ≡ suc (n + k) = omega arith in
      let one = one_left (n + k) in
      let more = more_left n k in
      subst (λ j. length (R j).left ≤ length (R n).left) (sym e) (omega arith)

  pub left_shrinks : (n m : ℕ) → n ≤ m → length (R m).left ≤ length (R n).left
  left_shrinks n m le = let e : n + (m - n) ≡ m = omega arith in subst (λ j. length (R j).left ≤ length (R n).left) e (more_left n (m - n))

  -- what a step leaves
  pub left_next : (n : ℕ) (x : S.State × List Answer) → next_of n ≡ Some x → (R (suc n)).left ≡ x.1
  left_next n x e = ap (λ (q : Ran hosts S.State). q.left) (one_on n) ∙ ap (λ o. (with_next S (R n) o).left) e

  -- further steps than to a wait leave fewer answers, if each is a real one
  pub passed : (n m : ℕ) (call : HostCall) → n < m → IsReal S m s0 given → S.status (R n).state ≡ Waits call → length (R m).left < length (R n).left
  passed n m call lt real waits =
      let step = (real_split S n s0 given (real_front S (suc n) m s0 given (omega arith) real)).1 in
      let fewer = wait_left S call (R n).state (R n).left step.0 (ap (λ status. next_at S status (R n).state (R n).left) (sym waits) ∙ step.1) in
      let same = ap length (left_next n step.0 step.1) in
      let rest = left_shrinks (suc n) m (omega arith) in
      omega arith
