-- A run after further steps of code, of which none takes an answer.
use Rattle.std.proofs.Common.{◌≡◌, ℕ, zero, suc, ◌<◌, ◌≤◌, false, List, ◌++◌, Option, Some, None, inl, inr, refl, sym, ap, ◌∙◌, subst, append-nil, le_refl, arith}
use Rattle.std.proofs.lemmas.Bool.{cases_lt}
use Rattle.spec_hosts.specs.wasm_form.declared.runtime.Trap.{Trap}
use Rattle.spec_hosts.specs.wasm_form.declared.runtime.Answer.{Answer}
use Rattle.spec_hosts.specs.wasm_form.declared.runtime.Asked.{Asked}
use Rattle.spec_hosts.specs.spec_runs.Systems.{Status, Moving, Waits, Returned, Exited, Trapped, event, IsReal}
use Rattle.spec_hosts.proofs.of_spec_runs.Runs.{event_moving}
use Rattle.spec_hosts.specs.spec_runtime.Memories.{MemoryInstance}
use Rattle.spec_hosts.specs.spec_runtime.Names.{HostName, HostNames}
use Rattle.spec_hosts.specs.spec_runtime.Hosts.{HostCall}
use Rattle.spec_hosts.specs.spec_runtime.Recorded.{Recorded, waits}
use Rattle.spec_hosts.specs.Ends.{taken_of}
use Rattle.spec_hosts.specs.spec_runtime.Courses.{Course, after, status_at, IsAt}
use Rattle.wasm_machine.specs.Steps.{Advances, AreOfCode}
use Rattle.wasm_exec.specs.Driving.{Progress, IsAskedOf, IsFree, IsRunning, KeepsCalls}
use Rattle.run_loaded.proofs.Growth.{real_front, events_last}
use Rattle.wasm_exec.proofs.Limits.{not_due, free_to}

-- a run that goes on by itself asks for nothing
unasked : (host : ℕ → Option HostName) (asked : Option Asked) → IsAskedOf host Moving asked → asked ≡ None
unasked host None asks = refl
unasked host (Some asked) asks = absurd asks

none_asked : (host : ℕ → Option HostName) (status : Status HostCall Trap) → waits status ≡ false → IsAskedOf host status None
none_asked host (Waits call) still = absurd cc
none_asked host Moving still = tt
none_asked host Returned still = tt
none_asked host (Exited code) still = tt
none_asked host (Trapped why) still = tt

module _ (C : Course) (given : List Answer) (n more : ℕ) (real : IsReal C.system more C.opening given)
    (moving : (k : ℕ) → n ≤ k → k < more → C.system.status (after C k given).state ≡ Moving) (calls : List (HostCall × MemoryInstance)) where
  -- the events after so many steps are these, and then that of the state that was reached
  abbrev HasCalls : ℕ → Type 0
  HasCalls k = (after C k given).events ≡ calls ++ event C.system (after C k given).state

  one_more : (k : ℕ) → n ≤ k → k < more → HasCalls k → HasCalls (suc k)
  one_more k above below has =
      let r = after C k given in
      let next = event C.system (after C (suc k) given).state in
      events_last C.system k C.opening given (real_front C.system (suc k) more C.opening given (omega arith) real)
      ∙ ap (λ l. l ++ next) (has ∙ ap (λ l. calls ++ l) (event_moving C.system r.state (moving k above below)) ∙ append-nil calls)

  calls_along : HasCalls n → (k : ℕ) → n ≤ k → k ≤ more → HasCalls k
  calls_along has zero above below = subst HasCalls (let e : n ≡ zero = omega arith in e) has
  calls_along has (suc k) above below = elim (cases_lt k n) [
    | inl under ↦ subst HasCalls (let e : n ≡ suc k = omega arith in e) has
    | inr over ↦ one_more k over (omega arith) (calls_along has k over (omega arith))
  ]

module _ (C : Course) (names : HostNames) (p : Progress) (running : IsRunning C names p) where
  abbrev old : Recorded
  old = p.run

  abbrev next : ℕ → Recorded
  next n = record p.run { steps = n; lost = false }

  abbrev with_run : Recorded → Progress
  with_run x = record p { run = x }

  -- no step was made
  none_made : next old.steps ≡ old
  none_made = λ i. record p.run { lost = sym running.stands.found i }

  same_run : (x : Recorded) → x ≡ old → IsRunning C names (with_run x) × KeepsCalls C old x
  same_run x e = subst (λ x. IsRunning C names (with_run x) × KeepsCalls C old x) (sym e) (running, record { answers = refl; calls = λ calls h. h })

  module _ (most n : ℕ) (a : Advances most old (next n)) (code : AreOfCode C old (next n)) (stands : IsAt C (next n)) where
    moving : (k : ℕ) → old.steps ≤ k → k < n → C.system.status (after C k old.answers).state ≡ Moving
    moving k above below = (code.free k above below).0

    free : IsFree C n old.answers
    free = free_to C old.answers old.steps n running.free
        (λ k above below. let f = code.free k above below in
        not_due C (after C k old.answers).state (taken_of old.answers (after C k old.answers).left) (λ e. f.1) (λ waiting. absurd (cc (waiting, ap waits f.0))))

    some_made : old.steps < n → IsRunning C names (with_run (next n)) × KeepsCalls C old (next n)
    some_made lt =
        let none = unasked C.host p.asked (subst (λ (s : Status HostCall Trap). IsAskedOf C.host s p.asked) (moving old.steps (le_refl old.steps) lt) running.asks) in (
          record {
            declared = running.declared;
            stands = stands;
            taken = running.taken;
            asks = subst (λ (o : Option Asked). IsAskedOf C.host (status_at C (next n)) o) (sym none) (none_asked C.host (status_at C (next n)) (code.unasked lt));
            free = free;
            written = running.written;
          },
          record {
            answers = refl;
            calls = λ calls has. calls_along C old.answers old.steps n stands.real moving calls has n a.more (le_refl n);
          },
        )

    made : IsRunning C names (with_run (next n)) × KeepsCalls C old (next n)
    made = elim (cases_lt old.steps n) [ inl lt ↦ some_made lt | inr ge ↦ same_run (next n) (ap next (let e : n ≡ old.steps = omega (arith, a.more) in e) ∙ none_made) ]

  pub advanced : (most : ℕ) (new : Recorded) → Advances most old new → AreOfCode C old new → new.lost ≡ false → IsAt C new → IsRunning C names (with_run new) × KeepsCalls C old new
  advanced most new a code found stands =
      let same : new ≡ next new.steps = a.same ∙ (λ i. record p.run { steps = new.steps; lost = found i }) in
      subst (λ x. IsRunning C names (with_run x) × KeepsCalls C old x) (sym same)
      (made most new.steps (subst (Advances most old) same a) (subst (AreOfCode C old) same code) (subst (IsAt C) same stands))
