-- The law of one step with its cost gives agreement within the cost, in both directions.
use Rattle.std.proofs.Common.{◌≡◌, ℕ, zero, suc, ◌+◌, ◌-◌, ◌<◌, ◌≤◌, List, [], ◌∷◌, ◌++◌, Option, Some, None, Bool, true, false, refl, sym, ap, ap₂, ◌∙◌, ⊎_elim, arith, append-nil}
use Rattle.std.proofs.lemmas.Bool.{cases_lt}
use Rattle.spec_runs.specs.Systems.{Outside, Status, Moving, Waits, Returned, Exited, Trapped, System, with_rest, only_if, next_at, next, event, run_from, run}
use Rattle.spec_runs.specs.Agreement.{Alike, Silent, StepLaw}
use Rattle.spec_runs.specs.Costs.{spent_from, spent, made, AgreeWithin, Low, CostLaw}
use Rattle.spec_runs.proofs.Runs.{next_moving, event_moving}
use Rattle.spec_runs.proofs.Simulation.{silent_below, silent_run, silent_past, alike, alike_back, same_event, next_as, fits_as}

-- the law of one step, without the cost
pub step_law : {O : Outside} (S T : System O) (Matches : S.State → T.State → Type 0) (cost room : S.State → ℕ) (depth : T.State → ℕ)
    → CostLaw S T Matches cost room depth → StepLaw S T Matches
step_law S T Matches cost room depth law = record {
  status = law.status;
  memory = law.memory;
  steps = λ s s' t ok moving e. let l = law.steps s s' t ok moving e in (l.0, l.1, l.2, l.3);
  stuck = law.stuck;
  answers = λ s t call answer ok waits fits. let l = law.answers s t call answer ok waits fits in (l.0, l.1, l.2, l.3);
}

-- where a run stands within silent steps, these lead to
pub silent_part : {O : Outside} (T : System O) (k j : ℕ) (t u : T.State) (answers : List O.Answer) → Silent T k t u → j ≤ k
    → Silent T j t (run T j t answers).state
silent_part T zero zero t u answers silent le = refl
silent_part T zero (suc j) t u answers silent le = absurd (omega arith)
silent_part T (suc k) zero t u answers silent le = refl
silent_part T (suc k) (suc j) t u answers silent le =
    let e = next_moving T t silent.0 answers silent.1 silent.2 in
    rw e (silent.0, silent.1, silent.2, silent_part T k j silent.0 u answers silent.3 (omega arith))

-- no run makes more steps than it may
pub made_most : {O : Outside} (T : System O) (m : ℕ) (t : T.State) (answers : List O.Answer) → made T m t answers ≤ m
made_most T zero t answers = omega arith
made_most {O} T (suc m) t answers = go (next T t answers) (λ x. made_most T m x.0 x.1)
  where
    go : (o : Option (T.State × List O.Answer)) → ((x : T.State × List O.Answer) → made T m x.0 x.1 ≤ m)
        → spent_from T (λ t. 1) t (λ t answers. made T m t answers) o ≤ suc m
    go None more = omega arith
    go (Some x) more = (let h = more x in omega (arith, h))

-- what silent steps make of the steps that go past them
made_past : {O : Outside} (T : System O) (k m : ℕ) (t u : T.State) (answers : List O.Answer) → Silent T k t u → k ≤ m
    → made T m t answers ≡ k + made T (m - k) u answers
made_past T zero m t u answers silent le = let e : m - 0 ≡ m = omega arith in rw (silent, e) (omega arith)
made_past T (suc k) zero t u answers silent le = absurd (omega arith)
made_past T (suc k) (suc m) t u answers silent le =
    let e = next_moving T t silent.0 answers silent.1 silent.2 in
    let same : suc m - suc k ≡ m - k = omega arith in
    let i = made_past T k m silent.0 u answers silent.3 (omega arith) in
    rw (e, same) (let h = i in omega (arith, h))

-- what t does next, where what it matches makes this step or none
abbrev Paired : {O : Outside} (S T : System O) → (S.State → T.State → Type 0) → (cost room : S.State → ℕ) → (T.State → ℕ) → S.State → T.State
    → List O.Answer → Option (S.State × List O.Answer) → Type 0
Paired S T Matches cost room depth s t answers None = next T t answers ≡ None
Paired S T Matches cost room depth s t answers (Some x) = (v : T.State) × (k : ℕ) × (t' : T.State) × (next T t answers ≡ Some (v, x.1))
    × Silent T k v t' × Matches x.0 t' × (suc k ≤ cost s) × ((j : ℕ) (w : T.State) → suc j ≤ k → Silent T j v w → depth w ≤ room s)

module _ {O : Outside} (S T : System O) (Matches : S.State → T.State → Type 0) (cost room : S.State → ℕ) (depth : T.State → ℕ)
    (law : CostLaw S T Matches cost room depth) where
  abbrev plain : StepLaw S T Matches
  plain = step_law S T Matches cost room depth law

  abbrev Goes : S.State → T.State → List O.Answer → Option (S.State × List O.Answer) → Type 0
  Goes s t answers o = Paired S T Matches cost room depth s t answers o

  -- from a moving state
  goes_moving : (s : S.State) (t : T.State) (answers : List O.Answer) (o : Option S.State) → Matches s t
      → S.status s ≡ Moving → S.step s ≡ o → Goes s t answers (with_rest answers o)
  goes_moving s t answers None ok moving e =
      next_as S T Matches plain s t answers Moving ok moving ∙ ap (with_rest answers) (law.stuck s t ok moving e)
  goes_moving s t answers (Some s') ok moving e =
      let l = law.steps s s' t ok moving e in (
        l.2.0,
        l.0,
        l.1,
        next_moving T t l.2.0 answers l.2.1 l.2.2,
        l.2.3,
        l.3,
        l.4,
        λ j w le silent. l.5 (suc j) w le (l.2.0, l.2.1, l.2.2, silent),
      )

  -- from a waiting state, with an answer
  goes_answer : (s : S.State) (t : T.State) (call : O.Call) (answer : O.Answer) (rest : List O.Answer) (b : Bool)
      → Matches s t → S.status s ≡ Waits call → O.fits call (S.memory s) answer ≡ b
      → Goes s t (answer ∷ rest) (with_rest rest (only_if b (S.take answer s)))
  goes_answer s t call answer rest false ok waits e = fits_as S T Matches plain s t call answer rest false ok waits e
  goes_answer s t call answer rest true ok waits e =
      let l = law.answers s t call answer ok waits e in
      (T.take answer t, l.0, l.1, fits_as S T Matches plain s t call answer rest true ok waits e, l.2, l.3, l.4, l.5)

  -- from any state, by how it stands
  goes_at : (s : S.State) (t : T.State) (answers : List O.Answer) (status : Status O.Call O.Trap) → Matches s t
      → S.status s ≡ status → Goes s t answers (next_at S status s answers)
  goes_at s t answers Moving ok e = goes_moving s t answers (S.step s) ok e refl
  goes_at s t [] (Waits call) ok e = next_as S T Matches plain s t [] (Waits call) ok e
  goes_at s t (answer ∷ rest) (Waits call) ok e = goes_answer s t call answer rest (O.fits call (S.memory s) answer) ok e refl
  goes_at s t answers Returned ok e = next_as S T Matches plain s t answers Returned ok e
  goes_at s t answers (Exited code) ok e = next_as S T Matches plain s t answers (Exited code) ok e
  goes_at s t answers (Trapped trap) ok e = next_as S T Matches plain s t answers (Trapped trap) ok e

  -- the second follows the first within the cost, by what the first does next
  there_from : (n : ℕ) (s : S.State) (t : T.State) (answers : List O.Answer) (o : Option (S.State × List O.Answer))
      → Matches s t → Goes s t answers o
      → ((s' : S.State) (t' : T.State) (rest : List O.Answer) → Matches s' t'
      → (m : ℕ) × (made S n s' rest ≤ m) × (m ≤ spent S cost n s' rest) × Alike S T (run S n s' rest) (run T m t' rest))
      → (m : ℕ) × (spent_from S (λ s. 1) s (spent S (λ s. 1) n) o ≤ m) × (m ≤ spent_from S cost s (spent S cost n) o)
      × Alike S T (run_from S s answers (run S n) o) (run T m t answers)
  there_from n s t answers None ok p more = (0, omega arith, omega arith, alike S T Matches plain s t answers ok)
  there_from n s t answers (Some x) ok p more =
      let i = more x.0 p.2 x.1 p.5 in
      let e = silent_run T p.1 i.0 p.0 p.2 x.1 p.4 in
      let few = i.1 in
      let many = i.2 in
      let cheap = p.6 in (
        suc (p.1 + i.0),
        omega (arith, few),
        omega (arith, many, cheap),
        rw (p.3, e) (record { events = ap₂ (λ a b. a ++ b) (same_event S T Matches plain s t ok) i.3.events; seen = i.3.seen }),
      )

  there : (n : ℕ) (s : S.State) (t : T.State) (answers : List O.Answer) → Matches s t
      → (m : ℕ) × (made S n s answers ≤ m) × (m ≤ spent S cost n s answers) × Alike S T (run S n s answers) (run T m t answers)
  there zero s t answers ok = (0, omega arith, omega arith, alike S T Matches plain s t answers ok)
  there (suc n) s t answers ok =
      there_from n s t answers (next S s answers) ok (goes_at s t answers (S.status s) ok refl) (λ s' t' rest. there n s' t' rest)

  -- ---- the other way round

  abbrev Back : ℕ → S.State → T.State → List O.Answer → Type 0
  Back m s t answers = (n : ℕ) × (made T m t answers ≤ spent S cost (suc n) s answers) × (depth (run T m t answers).state ≤ room (run S n s answers).state)
      × Alike T S (run T m t answers) (run S n s answers)

  back_from : (n m : ℕ) (s : S.State) (t : T.State) (answers : List O.Answer) (o : Option (S.State × List O.Answer))
      → m ≤ n → Matches s t → next S s answers ≡ o → Goes s t answers o
      → ((j : ℕ) (s' : S.State) (t' : T.State) (rest : List O.Answer) → j ≤ n → Matches s' t' → Back j s' t' rest)
      → Back (suc m) s t answers
  back_from n m s t answers None le ok q p more =
      let deep = law.deep s t ok in
      (0, rw p (omega arith), rw p deep, rw p (alike_back S T Matches plain s t answers ok))
  back_from n m s t answers (Some x) le ok q p more = ⊎_elim within past (cases_lt m p.1)
    where
      within : m < p.1 → Back (suc m) s t answers
      within lt =
          let below = silent_below T p.1 m p.0 p.2 x.1 p.4 lt in
          let part = silent_part T p.1 m p.0 p.2 x.1 p.4 (omega arith) in
          let low = p.7 m (run T m p.0 x.1).state lt part in
          let most = made_most T m p.0 x.1 in
          let cheap = p.6 in (
            0,
            rw (p.3, q) (omega (arith, most, cheap)),
            rw p.3 low,
            rw p.3 (record { events = ap (λ l. event T t ++ l) below.0 ∙ append-nil (event T t) ∙ sym (same_event S T Matches plain s t ok); seen = λ ends. absurd (ends below.1) }),
          )

      past : p.1 ≤ m → Back (suc m) s t answers
      past ge =
          let i = more (m - p.1) x.0 p.2 x.1 (omega arith) p.5 in
          let e = silent_past T p.1 m p.0 p.2 x.1 p.4 ge in
          let f = made_past T p.1 m p.0 p.2 x.1 p.4 ge in
          let few = i.1 in
          let cheap = p.6 in (
            suc i.0,
            rw (p.3, q, f) (omega (arith, few, cheap)),
            rw (p.3, q, e) i.2,
            rw (p.3, q, e) (record { events = ap₂ (λ a b. a ++ b) (sym (same_event S T Matches plain s t ok)) i.3.events; seen = i.3.seen }),
          )

  back : (n m : ℕ) (s : S.State) (t : T.State) (answers : List O.Answer) → m ≤ n → Matches s t → Back m s t answers
  back n zero s t answers le ok = (0, omega arith, law.deep s t ok, alike_back S T Matches plain s t answers ok)
  back zero (suc m) s t answers le ok = absurd (omega arith)
  back (suc n) (suc m) s t answers le ok =
      back_from n m s t answers (next S s answers) (omega arith) ok refl (goes_at s t answers (S.status s) ok refl) (λ j s' t' rest le' ok'. back n j s' t' rest le' ok')

  -- under the law of one step with its cost, matching states agree within the cost
  pub agree_within : (s : S.State) (t : T.State) → Matches s t → AgreeWithin S T cost room depth 0 s t
  agree_within s t ok = record {
    there = λ answers n. let i = there n s t answers ok in let most = i.2 in (i.0, i.1, omega (arith, most), i.3);
    back = λ answers m. let i = back m m s t answers (omega arith) ok in let most = i.1 in (i.0, omega (arith, most), i.2, i.3);
  }

-- agreement within the cost with where the second's silent steps lead is agreement with where they begin, with so many steps more
pub agree_within_after : {O : Outside} (S T : System O) (cost room : S.State → ℕ) (depth : T.State → ℕ) (s : S.State) (t u : T.State) (k : ℕ)
    → S.status s ≡ Moving → Silent T k t u → ((j : ℕ) (v : T.State) → suc j ≤ k → Silent T j t v → depth v ≤ room s)
    → AgreeWithin S T cost room depth 0 s u → AgreeWithin S T cost room depth k s t
agree_within_after {O} S T cost room depth s t u k moving silent low a = record {
  there = λ answers n.
      let i = a.there answers n in
      let few = i.1 in
      let most = i.2 in
      (k + i.0, omega (arith, few), omega (arith, most), rw (silent_run T k i.0 t u answers silent) i.3);
  back = λ answers m. ⊎_elim (within answers m) (past answers m) (cases_lt m k);
}
  where
    Back : List O.Answer → ℕ → Type 0
    Back answers m = (n : ℕ) × (made T m t answers ≤ spent S cost (suc n) s answers + k) × (depth (run T m t answers).state ≤ room (run S n s answers).state)
        × Alike T S (run T m t answers) (run S n s answers)

    within : (answers : List O.Answer) (m : ℕ) → m < k → Back answers m
    within answers m lt =
        let below = silent_below T k m t u answers silent lt in
        let part = silent_part T k m t u answers silent (omega arith) in
        let most = made_most T m t answers in (
          0,
          omega (arith, most, lt),
          low m (run T m t answers).state lt part,
          record { events = below.0 ∙ sym (event_moving S s moving); seen = λ ends. absurd (ends below.1) },
        )

    past : (answers : List O.Answer) (m : ℕ) → k ≤ m → Back answers m
    past answers m ge =
        let i = a.back answers (m - k) in
        let few = i.1 in
        let count = made_past T k m t u answers silent ge in
        let e = silent_past T k m t u answers silent ge in
        (i.0, omega (arith, few, count), rw e i.2, rw e i.3)
