-- The steps that a run makes are real ones, and what it stands at after them; how many answers were taken.
use Rattle.std.proofs.Common.{◌≡◌, ℕ, zero, suc, ◌+◌, ◌<◌, ◌≤◌, List, [], ◌∷◌, length, Option, Some, None, refl, ap, ◌∙◌, subst, arith, length-append}
use Rattle.spec_hosts.specs.spec_runs.Systems.{Outside, Status, Moving, Waits, Returned, Exited, Trapped, System, Ran, with_rest, only_if, next_at, next, event_at, event, after_events, run_from, run, with_next, IsReal}
use Rattle.spec_hosts.specs.spec_runs.Costs.{spent_from, made}
use Rattle.spec_hosts.proofs.of_spec_runs.Runs.{run_last, real_split}

module _ {O : Outside} (S : System O) where
  pub made_are_real : (m : ℕ) (s : S.State) (given : List O.Answer) → IsReal S (made S m s given) s given
  made_are_real zero s given = tt
  made_are_real (suc m) s given = go (next S s given) refl (λ x. made_are_real m x.0 x.1)
    where
      go : (o : Option (S.State × List O.Answer)) → next S s given ≡ o → ((x : S.State × List O.Answer) → IsReal S (made S m x.0 x.1) x.0 x.1)
          → IsReal S (spent_from S (λ s. 1) s (λ s given. made S m s given) o) s given
      go None e more = tt
      go (Some x) e more =
          let one : suc (made S m x.0 x.1) ≡ 1 + made S m x.0 x.1 = omega arith in
          subst (λ k. IsReal S k s given) one (x, e, more x)

  pub run_of_made : (m : ℕ) (s : S.State) (given : List O.Answer) → run S (made S m s given) s given ≡ run S m s given
  run_of_made zero s given = refl
  run_of_made (suc m) s given = go (next S s given) refl (λ x. run_of_made m x.0 x.1)
    where
      go : (o : Option (S.State × List O.Answer)) → next S s given ≡ o → ((x : S.State × List O.Answer) → run S (made S m x.0 x.1) x.0 x.1 ≡ run S m x.0 x.1)
          → run S (spent_from S (λ s. 1) s (λ s given. made S m s given) o) s given ≡ run_from S s given (run S m) o
      go None e more = refl
      go (Some x) e more =
          let one : 1 + made S m x.0 x.1 ≡ suc (made S m x.0 x.1) = omega arith in
          ap (λ k. run S k s given) one ∙ ap (run_from S s given (run S (made S m x.0 x.1))) e ∙ ap (after_events (event S s)) (more x)

  -- fewer steps than real ones are real, and a further one is there
  pub real_front : (k n : ℕ) (s : S.State) (given : List O.Answer) → k ≤ n → IsReal S n s given → IsReal S k s given
  real_front zero n s given le real = tt
  real_front (suc k) zero s given le real = absurd (omega arith)
  real_front (suc k) (suc n) s given le real = (real.0, real.1, real_front k n real.0.0 real.0.1 (omega arith) real.2)

  pub real_next : (k n : ℕ) (s : S.State) (given : List O.Answer) → k < n → IsReal S n s given
      → (x : S.State × List O.Answer) × (next S (run S k s given).state (run S k s given).left ≡ Some x)
  real_next k n s given lt real = (real_split S k s given (real_front (suc k) n s given (omega arith) real)).1

  -- where no step is there, the run stays
  pub stays : (n j : ℕ) (s : S.State) (given : List O.Answer) → next S (run S n s given).state (run S n s given).left ≡ None
      → run S (n + j) s given ≡ run S n s given
  stays n zero s given none = let e : n + 0 ≡ n = omega arith in ap (λ k. run S k s given) e
  stays n (suc j) s given none =
      let e : n + suc j ≡ suc (n + j) = omega arith in
      let before = stays n j s given none in
      ap (λ k. run S k s given) e
      ∙ run_last S (n + j) s given
      ∙ ap (λ (r : Ran O S.State). with_next S r (next S r.state r.left)) before
      ∙ ap (with_next S (run S n s given)) none

  rest_kept : (o : Option S.State) (rest : List O.Answer) (x : S.State × List O.Answer) → with_rest rest o ≡ Some x → length x.1 ≡ length rest
  rest_kept None rest x e = absurd cc
  rest_kept (Some y) rest x e = let same : x.1 ≡ rest = cc in ap length same

  -- a step takes as many answers as its state has events
  one_taken : (status : Status O.Call O.Trap) (s : S.State) (given : List O.Answer) (x : S.State × List O.Answer) → next_at S status s given ≡ Some x
      → length (event_at status (S.memory s)) + length x.1 ≡ length given
  one_taken Moving s given x e = let same = rest_kept (S.step s) given x e in omega arith
  one_taken (Waits call) s [] x e = absurd cc
  one_taken (Waits call) s (a ∷ rest) x e = let same = rest_kept (only_if (O.fits call (S.memory s) a) (S.take a s)) rest x e in omega arith
  one_taken Returned s given x e = absurd cc
  one_taken (Exited code) s given x e = absurd cc
  one_taken (Trapped why) s given x e = absurd cc

  -- each event but that of the last state was answered
  pub each_taken : (n : ℕ) (s : S.State) (given : List O.Answer)
      → length (run S n s given).events + length (run S n s given).left ≡ length given + length (event S (run S n s given).state)
  each_taken zero s given = omega arith
  each_taken (suc n) s given = go (next S s given) refl (λ x. each_taken n x.0 x.1)
    where
      go : (o : Option (S.State × List O.Answer)) → next S s given ≡ o
          → ((x : S.State × List O.Answer) → length (run S n x.0 x.1).events + length (run S n x.0 x.1).left ≡ length x.1 + length (event S (run S n x.0 x.1).state))
          → length (run_from S s given (run S n) o).events + length (run_from S s given (run S n) o).left ≡ length given + length (event S (run_from S s given (run S n) o).state)
      go None e more = omega arith
      go (Some x) e more =
          let one = one_taken (S.status s) s given x e in
          let rest = more x in
          let both = length-append (event S s) (run S n x.0 x.1).events in
          omega arith
