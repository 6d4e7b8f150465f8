-- How the runs of a system grow by steps that are made.
use Rattle.std.proofs.Common.{◌≡◌, ℕ, zero, suc, ◌≤◌, List, ◌++◌, Some, refl, sym, ap, ◌∙◌, subst, arith}
use Rattle.spec_hosts.specs.spec_runs.Systems.{Outside, System, Ran, run, event, with_next, IsReal}
use Rattle.spec_hosts.proofs.of_spec_runs.Runs.{run_last, real_split}

-- fewer of the steps are real too
pub real_front : {O : Outside} (S : System O) (k n : ℕ) (s : S.State) (answers : List O.Answer) → k ≤ n → IsReal S n s answers → IsReal S k s answers
real_front S zero n s answers fewer real = tt
real_front S (suc k) zero s answers fewer real = absurd (omega arith)
real_front S (suc k) (suc n) s answers fewer real = (real.0, real.1, real_front S k n real.0.0 real.0.1 (omega arith) real.2)

-- a real step adds the event of the state that it leads to
pub events_last : {O : Outside} (S : System O) (n : ℕ) (s : S.State) (answers : List O.Answer) → IsReal S (suc n) s answers
    → (run S (suc n) s answers).events ≡ (run S n s answers).events ++ event S (run S (suc n) s answers).state
events_last {O} S n s answers real =
    let last = (real_split S n s answers real).1 in
    let e : run S (suc n) s answers ≡ with_next S (run S n s answers) (Some last.0) = run_last S n s answers ∙ ap (with_next S (run S n s answers)) last.1 in
    subst (λ (r : Ran O S.State). r.events ≡ (run S n s answers).events ++ event S r.state) (sym e) refl
