-- Silent steps: a run without answers makes no others, and along them matching states stay matched.
use Rattle.std.proofs.Common.{◌≡◌, ℕ, zero, suc, [], Option, Some, None, refl, sym, ap, ◌∙◌, subst}
use Rattle.spec_loading.specs.spec_runs.Systems.{Outside, Status, Moving, Waits, Returned, Exited, Trapped, System, Ran, with_rest, next_at, next, run, with_next}
use Rattle.spec_loading.specs.spec_runs.Agreement.{Silent, StepLaw}
use Rattle.spec_loading.proofs.of_spec_runs.Runs.{run_last}

module _ {O : Outside} (S : System O) where
  pub silent_more : (n : ℕ) (s t u : S.State) → Silent S n s t → S.status t ≡ Moving → S.step t ≡ Some u → Silent S (suc n) s u
  silent_more zero s t u same moving step = (u, ap S.status same ∙ moving, ap S.step same ∙ step, refl)
  silent_more (suc n) s t u more moving step = (more.0, more.1, more.2, silent_more n more.0 t u more.3 moving step)

  -- silent steps lead where a run stands, and no answer is left
  pub record IsSilent (s : S.State) (r : Ran O S.State) : Type 0 where
    pub steps : ℕ
    pub silent : Silent S steps s r.state
    pub left : r.left ≡ []

  next_silent : (s : S.State) (r : Ran O S.State) → IsSilent s r → (st : Status O.Call O.Trap) → S.status r.state ≡ st
      → IsSilent s (with_next S r (next_at S st r.state []))
  next_silent s r is Moving e = go (S.step r.state) refl
    where
      go : (o : Option S.State) → S.step r.state ≡ o → IsSilent s (with_next S r (with_rest [] o))
      go None q = is
      go (Some t) q = record { steps = suc is.steps; silent = silent_more is.steps s r.state t is.silent e q; left = refl }
  next_silent s r is (Waits call) e = is
  next_silent s r is Returned e = is
  next_silent s r is (Exited code) e = is
  next_silent s r is (Trapped why) e = is

  pub run_silent : (n : ℕ) (s : S.State) → IsSilent s (run S n s [])
  run_silent zero s = record { steps = zero; silent = refl; left = refl }
  run_silent (suc n) s =
      let r = run S n s [] in
      let is = run_silent n s in
      subst (IsSilent s) (sym (run_last S n s [] ∙ ap (λ left. with_next S r (next S r.state left)) is.left))
      (next_silent s r is (S.status r.state) refl)

  module _ (T : System O) (Matches : S.State → T.State → Type 0) (law : StepLaw S T Matches) where
    pub matched_after : (k : ℕ) (s s' : S.State) (t : T.State) → Matches s t → Silent S k s s' → (t' : T.State) × Matches s' t'
    matched_after zero s s' t matched same = (t, subst (λ u. Matches u t) same matched)
    matched_after (suc k) s s' t matched more =
        let next = law.steps s more.0 t matched more.1 more.2 in
        matched_after k more.0 s' next.1 next.3 more.3
