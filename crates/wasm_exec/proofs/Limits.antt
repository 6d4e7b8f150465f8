-- Before which steps a limit is due.
use Rattle.std.proofs.Common.{◌≡◌, ℕ, ◌+◌, ◌-◌, ◌<◌, ◌≤◌, List, ◌++◌, length, take, Bool, true, false, inl, inr, refl, ap, ◌∙◌, arith, length-append}
use Rattle.std.proofs.lemmas.Bool.{cases_lt}
use Rattle.std.proofs.lemmas.List.{take-append-le}
use Rattle.spec_hosts.specs.wasm_form.declared.runtime.Trap.{Trap}
use Rattle.spec_hosts.specs.wasm_form.declared.runtime.Answer.{Answer}
use Rattle.spec_hosts.specs.spec_runs.Systems.{Status, Moving, Waits, Returned, Exited, Trapped, Ran, IsReal}
use Rattle.spec_hosts.proofs.of_spec_runs.Runs.{run_append}
use Rattle.spec_hosts.specs.spec_runtime.Hosts.{HostCall, hosts}
use Rattle.spec_hosts.specs.spec_runtime.Recorded.{waits}
use Rattle.spec_hosts.specs.Ends.{are_many, taken_of, is_due}
use Rattle.spec_hosts.specs.spec_runtime.Courses.{Course, after}
use Rattle.wasm_exec.specs.Driving.{IsFree}
use Rattle.run_loaded.proofs.Growth.{real_front}

-- further answers were not taken
pub taken_append : (given left further : List Answer) → taken_of (given ++ further) (left ++ further) ≡ taken_of given left
taken_append given left further =
    let one : length (given ++ further) ≡ length given + length further = length-append given further in
    let other : length (left ++ further) ≡ length left + length further = length-append left further in
    let same : length (given ++ further) - length (left ++ further) ≡ length given - length left = omega arith in
    let within : length given - length left ≤ length given = omega arith in
    ap (λ n. take n (given ++ further)) same ∙ take-append-le (length given - length left) given further within

module _ (C : Course) where
  -- none is due where the step isn't too deep, or the answers are not too many
  pub not_due : (s : C.system.State) (given : List Answer) → (C.system.status s ≡ Moving → C.deep s ≡ false) → (waits (C.system.status s) ≡ true → are_many given ≡ false)
      → is_due C.system C.deep s given ≡ false
  not_due s given flat few = by (C.system.status s) refl
    where
      by : (status : Status HostCall Trap) → C.system.status s ≡ status → is_due C.system C.deep s given ≡ false
      by Moving e = rw (e, is_due) (flat e)
      by (Waits call) e = rw (e, is_due) (few (ap waits e))
      by Returned e = rw (e, is_due) refl
      by (Exited code) e = rw (e, is_due) refl
      by (Trapped why) e = rw (e, is_due) refl

  abbrev DueAt : List Answer → ℕ → Bool
  DueAt given k = is_due C.system C.deep (after C k given).state (taken_of given (after C k given).left)

  -- more steps before which none is due
  pub free_to : (given : List Answer) (n more : ℕ) → IsFree C n given → ((k : ℕ) → n ≤ k → k < more → DueAt given k ≡ false) → IsFree C more given
  free_to given n more before after k lt = elim (cases_lt k n) [ inl below ↦ before k below | inr above ↦ after k above lt ]

  -- an answer more leaves the steps before it free
  pub free_append : (given further : List Answer) (n : ℕ) → IsReal C.system n C.opening given → IsFree C n given → IsFree C n (given ++ further)
  free_append given further n real before k lt =
      let e = run_append C.system k C.opening given further (real_front C.system k n C.opening given (omega arith) real) in
      let due : C.system.State → List Answer → Bool = λ s taken. is_due C.system C.deep s taken in
      ap (λ (r : Ran hosts C.system.State). due r.state (taken_of (given ++ further) r.left)) e
      ∙ ap (due (after C k given).state) (taken_append given (after C k given).left further)
      ∙ before k lt
