-- The first state of which something is to be said: there is one; where it has started, it has just called the entry.
use Rattle.std.proofs.Common.{◌≡◌, ◌⊎◌, ◌<◌, ◌≤◌, ℕ, zero, suc, List, [], ◌∷◌, nat_eq, Option, Some, None, IfSome, Bool, true, false, ◌&&◌, if◌then◌else◌, inl, inr, refl, sym, ap, ◌∙◌, subst, arith}
use Rattle.std.specs.Prelude.{not}
use Rattle.std.specs.List.{list_any}
use Rattle.std.proofs.lemmas.Bool.{cases_lt}
use Rattle.std.proofs.lemmas.Bool.Decides.{nat_tests}
use Rattle.std.proofs.lemmas.List.Elements.{All-nil}
use Rattle.spec_loading.specs.wasm_form.declared.runtime.Ref.TheVariants.{Own}
use Rattle.spec_loading.specs.wasm_form.declared.runtime.Answer.{Answer}
use Rattle.spec_loading.specs.wasm_form.declared.runtime.Trap.{Trap}
use Rattle.spec_loading.specs.spec_runs.Systems.{Status, Moving, Waits, Returned, Exited, Trapped, Ran, with_rest, next_at, next, with_next}
use Rattle.spec_loading.specs.spec_runs.Agreement.{Silent}
use Rattle.spec_loading.proofs.of_spec_runs.Runs.{run_last}
use Rattle.spec_loading.specs.spec_binary.Options.{◌>>=◌}
use Rattle.spec_loading.specs.spec_binary.Indices.{Function, nullary}
use Rattle.spec_loading.specs.spec_runtime.Hosts.{HostCall, hosts}
use Rattle.spec_loading.specs.spec_execution.Runs.{Frame, entered, call_own}
use Rattle.spec_loading.specs.spec_execution.Runs as frames
use Rattle.spec_loading.specs.spec_safety.ValueTypes.{IsOfBytes}
use Rattle.spec_loading.proofs.of_spec_safety.Lookups.{went_on}
use Rattle.spec_loading.proofs.of_spec_safety.KnownStacks.{some_same}
use Rattle.spec_loading.specs.spec_linking.LinkedSets.{LinkedSet}
use Rattle.spec_loading.specs.spec_linking.Links.{set_entry}
use Rattle.spec_loading.specs.Phases.{LoaderFrame}
use Rattle.spec_loading.specs.Loading.{Loading, with_run, comes_to, call_next, came_to, loaded_from, loaded_step, loaded_too_deep}
use Rattle.spec_loading.specs.Members.{Store, set_instances}
use Rattle.spec_loading.specs.LoadedSet.{SetState, set_loading, set_system, set_opening, set_run}
use Rattle.spec_loading.specs.SoundSets.{HoldBytes, HasFewPages, IsSoundState, SetRunIsSound, SetStepIsSound}
use Rattle.spec_loading.specs.Laws.{IsCallable, EntryIsThere}
use Rattle.spec_keeping.specs.Keeping.{SetRunKeeps}
use Rattle.merge_match.specs.Bounded.{IsBounded}
use Rattle.merge_module.specs.Laws.{IsMergeable}
use Rattle.spec_snapshots.specs.Causes.{goes_on, is_startup, is_started, SnapCause, Takes, TrapsSo, Calls, StepsEnd, cause_by, cause_at, state_after, IsFirst}
use Rattle.snap_set.specs.Laws.{IsJustStarted, FirstIsJustStarted, OneFirst, SomeFirst}
use Rattle.snap_set.proofs.Bottom.{Starts, HasTrapped, StateStarts, calling_frame, step_over}
use Rattle.snap_set.proofs.Silent.{silent_more}

-- ---- causes

never_and : (b : Bool) → (b && false) ≡ false
never_and true = refl
never_and false = refl

no_start : (s : SetState) → Starts s.run.stack → is_started s ≡ false
no_start s k = ap (λ (b : Bool). goes_on s.run.status && not b) k ∙ never_and (goes_on s.run.status)

no_end : (s : SetState) → goes_on s.run.status ≡ false → is_started s ≡ false
no_end s e = ap (λ (b : Bool). b && not (list_any is_startup s.run.stack)) e

cause_is : (L : LinkedSet) (most n : ℕ) (s : SetState) → is_started s ≡ false
    → cause_at L most n s ≡ cause_by (nat_eq n most) (loaded_too_deep (set_loading L) s) s.run.status
cause_is L most n s e = ap (λ (b : Bool). if b then Some Takes else cause_by (nat_eq n most) (loaded_too_deep (set_loading L) s) s.run.status) e

never_takes : (used deep : Bool) (st : Status HostCall Trap) → cause_by used deep st ≡ Some Takes → ⊥
never_takes true deep Moving e = cc
never_takes false true Moving e = cc
never_takes false false Moving e = cc
never_takes used deep (Waits call) e = cc
never_takes used deep Returned e = cc
never_takes used deep (Exited code) e = cc
never_takes used deep (Trapped why) e = cc

-- ---- the run

module _ (sound : SetRunIsSound) (steps : SetStepIsSound) (entries : EntryIsThere) (keeps : SetRunKeeps) (L : LinkedSet) (mergeable : IsMergeable L) (bytes : HoldBytes L) where
  abbrev D : Loading Store
  D = set_loading L

  abbrev ran : ℕ → Ran hosts SetState
  ran n = set_run L [] n

  few : HasFewPages L
  few = (let most = mergeable.pages in omega arith)

  sound_at : (n : ℕ) → IsSoundState L (state_after L n)
  sound_at n = sound L [] n mergeable.shape mergeable.links few bytes (All-nil IsOfBytes)

  -- ---- the entry

  pub record IsEntry (f : ℕ) (code : Function) : Type 0 where
    pub entry : set_entry L.set.members ≡ Some f
    pub found : (set_instances L).code 0 f ≡ Some code
    pub ty : code.ty ≡ nullary

  entry_there : (f : ℕ) × (code : Function) × IsEntry f code
  entry_there =
      let there = entries L mergeable.shape mergeable.links in
      let f = went_on (set_entry L.set.members) (λ g. Some (Own 0 g)) (Own 0 there.0) there.1 in
      let callable : IsCallable L (Own 0 f.0) = subst (λ r. IsCallable L r) (sym (some_same f.2)) there.2 in
      let x = went_on ((set_instances L).code 0 f.0) (λ (y : Function). Some y.ty) nullary callable in
      (f.0, x.0, record { entry = f.1; found = x.1; ty = some_same x.2 })

  -- the state after its call
  abbrev begun : SetState → ℕ → Function → List (Frame LoaderFrame) → SetState
  begun s f code under = with_run s (record {
    units = s.run.units;
    memory = s.run.memory;
    stack = frames.Active (entered 0 f code []) ∷ under;
    status = Moving;
  })

  entering : (s : SetState) (under : List (Frame LoaderFrame)) → s.run.stack ≡ frames.Marked (calling_frame D) ∷ under
      → (f : ℕ) (code : Function) → IsEntry f code → loaded_step D s ≡ Some (begun s f code under)
  entering s under at f code is =
      let ty = is.ty in
      ap (λ (stack : List (Frame LoaderFrame)). loaded_from D s stack) at
      ∙ ap (λ (o : Option ℕ). ((o >>= λ g. Some (Own 0 g)) >>= λ r. call_next D s under (Some r)) >>= λ c. came_to D c.state c.next) is.entry
      ∙ ap (λ (o : Option Function). comes_to s (o >>= call_own s.run.units s.run.memory (λ values. under) [] 0 f) >>= λ c. came_to D c.state c.next) is.found
      ∙ rw ty refl

  -- nothing is under the frame that calls it
  alone : (s : SetState) (under : List (Frame LoaderFrame)) → IsSoundState L s → s.run.status ≡ Moving
      → s.run.stack ≡ frames.Marked (calling_frame D) ∷ under → under ≡ []
  alone s under is moving at = (let stack = is.stack in let fits = rw (moving, at) at stack in fits.1.1.1)

  -- ---- one step more

  -- n steps lead there that ask nothing
  pub record IsReached (n : ℕ) : Type 0 where
    pub left : (ran n).left ≡ []
    pub silent : Silent (set_system L) n (set_opening L) (state_after L n)

  after_step : (n : ℕ) (t : SetState) → (state_after L n).run.status ≡ Moving → loaded_step D (state_after L n) ≡ Some t
      → (state_after L (suc n) ≡ t) × ((ran (suc n)).left ≡ (ran n).left)
  after_step n t moving step =
      let S = set_system L in
      let r = ran n in
      let e : next S r.state r.left ≡ Some (t, r.left) = ap (λ st. next_at S st r.state r.left) moving ∙ ap (with_rest r.left) step in
      let whole : ran (suc n) ≡ with_next S r (Some (t, r.left)) = run_last S n (set_opening L) [] ∙ ap (with_next S r) e in
      (ap (λ (q : Ran hosts SetState). q.state) whole, ap (λ (q : Ran hosts SetState). q.left) whole)

  reached_more : (n : ℕ) (t : SetState) → IsReached n → (state_after L n).run.status ≡ Moving → loaded_step D (state_after L n) ≡ Some t → IsReached (suc n)
  reached_more n t is moving step =
      let after = after_step n t moving step in
      record {
        left = after.1 ∙ is.left;
        silent = subst (Silent (set_system L) (suc n) (set_opening L)) (sym after.0) (silent_more (set_system L) n (set_opening L) (state_after L n) t is.silent moving step);
      }

  ended_stays : (s : SetState) (st : Status HostCall Trap) (left : List Answer) → goes_on st ≡ false → next_at (set_system L) st s left ≡ None
  ended_stays s Moving left e = absurd cc
  ended_stays s (Waits call) left e = absurd cc
  ended_stays s Returned left e = refl
  ended_stays s (Exited code) left e = refl
  ended_stays s (Trapped why) left e = refl

  stays : (n : ℕ) → goes_on (state_after L n).run.status ≡ false → ran (suc n) ≡ ran n
  stays n e =
      run_last (set_system L) n (set_opening L) []
      ∙ ap (with_next (set_system L) (ran n)) (ended_stays (state_after L n) (state_after L n).run.status (ran n).left e)

  -- ---- how far start-up is

  pub record IsEntered (s : SetState) : Type 0 where
    pub function : ℕ
    pub code : Function
    pub is : IsEntry function code
    pub moving : s.run.status ≡ Moving
    pub stack : s.run.stack ≡ frames.Active (entered 0 function code []) ∷ []

  -- the frame is still there; or the entry was just called; or a trap has ended the run
  abbrev Stage : ℕ → Type 0
  Stage n =
      (IsReached n × Starts (state_after L n).run.stack × (goes_on (state_after L n).run.status ≡ true))
      ⊎ ((IsReached n × IsEntered (state_after L n)) ⊎ HasTrapped D (state_after L n))

  still_trapped : (n : ℕ) → HasTrapped D (state_after L n) → HasTrapped D (state_after L (suc n))
  still_trapped n has = (has.0, ap (λ (q : Ran hosts SetState). q.state.run.status) (stays n (ap goes_on has.1)) ∙ has.1)

  after_move : (n : ℕ) → IsReached n → Starts (state_after L n).run.stack → (state_after L n).run.status ≡ Moving → Stage (suc n)
  after_move n is k moving =
      let s = state_after L n in
      let t = steps L s mergeable.shape mergeable.links few (sound_at n) moving in
      let more = reached_more n t.0 is moving t.1 in
      let to : t.0 ≡ state_after L (suc n) = sym (after_step n t.0 moving t.1).0 in
      go t.0 t.1 more to (step_over D s k)
    where
      over : (t : SetState) → IsReached (suc n) → t ≡ state_after L (suc n) → StateStarts D t → Stage (suc n)
      over t more to (inl starts) =
          inl (more, subst (λ (u : SetState). Starts u.run.stack) to starts.0, subst (λ (u : SetState). goes_on u.run.status ≡ true) to starts.1)
      over t more to (inr trapped) = inr (inr (subst (HasTrapped D) to trapped))

      entered_at : (under : List (Frame LoaderFrame)) → (state_after L n).run.stack ≡ frames.Marked (calling_frame D) ∷ under → (t : SetState)
          → loaded_step D (state_after L n) ≡ Some t → IsEntered t
      entered_at under at t step =
          let e = entry_there in
          let bare = alone (state_after L n) under (sound_at n) moving at in
          let same : begun (state_after L n) e.0 e.1 under ≡ t = some_same (sym (entering (state_after L n) under at e.0 e.1 e.2) ∙ step) in
          subst IsEntered same (record {
            function = e.0;
            code = e.1;
            is = e.2;
            moving = refl;
            stack = ap (λ (l : List (Frame LoaderFrame)). frames.Active (entered 0 e.0 e.1 []) ∷ l) bare;
          })

      go : (t : SetState) → loaded_step D (state_after L n) ≡ Some t → IsReached (suc n) → t ≡ state_after L (suc n)
          → IfSome (loaded_step D (state_after L n)) (StateStarts D) ⊎ ((under : List (Frame LoaderFrame)) × ((state_after L n).run.stack ≡ frames.Marked (calling_frame D) ∷ under))
          → Stage (suc n)
      go t step more to (inl fine) = over t more to (subst (λ (o : Option SetState). IfSome o (StateStarts D)) step fine)
      go t step more to (inr calling) = inr (inl (more, subst IsEntered to (entered_at calling.0 calling.1 t step)))

  -- while nothing is to be said
  stage_after : (most n : ℕ) → cause_at L most n (state_after L n) ≡ None → Stage n → Stage (suc n)
  stage_after most n none (inr (inr trapped)) = inr (inr (still_trapped n trapped))
  stage_after most n none (inr (inl (is, entered))) =
      let moving = entered.moving in
      let stack = entered.stack in
      let started : is_started (state_after L n) ≡ true = rw (moving, stack) refl in
      absurd (let takes : cause_at L most n (state_after L n) ≡ Some Takes = rw started refl in let bad : None ≡ Some Takes = sym none ∙ takes in cc)
  stage_after most n none (inl (is, k, on)) = go (state_after L n).run.status refl
    where
      by : cause_by (nat_eq n most) (loaded_too_deep D (state_after L n)) (state_after L n).run.status ≡ None
      by = sym (cause_is L most n (state_after L n) (no_start (state_after L n) k)) ∙ none

      go : (st : Status HostCall Trap) → (state_after L n).run.status ≡ st → Stage (suc n)
      go Moving e = after_move n is k e
      go (Waits call) e = absurd (let bad = rw e at by in cc)
      go Returned e = absurd (let bad = rw e at on in cc)
      go (Exited code) e = absurd (let bad = rw e at on in cc)
      go (Trapped why) e = absurd (let bad = rw e at on in cc)

  stages : (most n : ℕ) → ((k : ℕ) → k < n → cause_at L most k (state_after L k) ≡ None) → Stage n
  stages most zero before = inl (record { left = refl; silent = refl }, refl, refl)
  stages most (suc n) before = stage_after most n (before n (omega arith)) (stages most n (λ k lt. before k (omega arith)))

  bounded_at : (n : ℕ) → IsBounded (state_after L n).run.memory
  bounded_at n =
      let kept = (keeps L [] n).memory in
      let most = mergeable.pages in
      let few = (sound_at n).memory.few in
      record { most = omega (arith, kept, most); within = few }

  first_started : (most n : ℕ) → IsFirst L most n Takes
      → (f : ℕ) × (code : Function) × (set_entry L.set.members ≡ Some f) × IsJustStarted L (state_after L n) f code
  first_started most n first = go (stages most n first.before)
    where
      not_yet : is_started (state_after L n) ≡ false → ⊥
      not_yet e = never_takes (nat_eq n most) (loaded_too_deep D (state_after L n)) (state_after L n).run.status (sym (cause_is L most n (state_after L n) e) ∙ first.here)

      go : Stage n → (f : ℕ) × (code : Function) × (set_entry L.set.members ≡ Some f) × IsJustStarted L (state_after L n) f code
      go (inl (is, k, on)) = absurd (not_yet (no_start (state_after L n) k))
      go (inr (inr trapped)) = absurd (not_yet (no_end (state_after L n) (ap goes_on trapped.1)))
      go (inr (inl (is, entered))) = (
        entered.function,
        entered.code,
        entered.is.entry,
        record {
          steps = n;
          silent = is.silent;
          moving = entered.moving;
          stack = entered.stack;
          found = entered.is.found;
          ty = entered.is.ty;
          bounded = bounded_at n;
        },
      )

  -- ---- there is one

  -- at the last state there is always something to be said
  said_last : (most : ℕ) → Stage most → (c : SnapCause) × (cause_at L most most (state_after L most) ≡ Some c)
  said_last most (inr (inr trapped)) = (
    TrapsSo trapped.0,
    cause_is L most most (state_after L most) (no_end (state_after L most) (ap goes_on trapped.1))
        ∙ ap (cause_by (nat_eq most most) (loaded_too_deep D (state_after L most))) trapped.1,
  )
  said_last most (inr (inl (is, entered))) =
      let moving = entered.moving in
      let stack = entered.stack in
      let started : is_started (state_after L most) ≡ true = rw (moving, stack) refl in
      (Takes, ap (λ (b : Bool). if b then Some Takes else cause_by (nat_eq most most) (loaded_too_deep D (state_after L most)) (state_after L most).run.status) started)
  said_last most (inl (is, k, on)) = go (state_after L most).run.status refl
    where
      by : (st : Status HostCall Trap) → (state_after L most).run.status ≡ st
          → cause_at L most most (state_after L most) ≡ cause_by true (loaded_too_deep D (state_after L most)) st
      by st e =
          let last : nat_eq most most ≡ true = grind (arith, nat_tests) in
          cause_is L most most (state_after L most) (no_start (state_after L most) k)
          ∙ ap (λ (b : Bool). cause_by b (loaded_too_deep D (state_after L most)) (state_after L most).run.status) last
          ∙ ap (cause_by true (loaded_too_deep D (state_after L most))) e

      go : (st : Status HostCall Trap) → (state_after L most).run.status ≡ st → (c : SnapCause) × (cause_at L most most (state_after L most) ≡ Some c)
      go Moving e = (StepsEnd, by Moving e)
      go (Waits call) e = (Calls, by (Waits call) e)
      go (Trapped why) e = (TrapsSo why, by (Trapped why) e)
      go Returned e = absurd (let bad = rw e at on in cc)
      go (Exited code) e = absurd (let bad = rw e at on in cc)

  -- of none of the states before one, or of one of them first
  abbrev Said : ℕ → Type 0
  Said most = (n : ℕ) × (c : SnapCause) × (n ≤ most) × IsFirst L most n c

  abbrev Unsaid : ℕ → ℕ → Type 0
  Unsaid most j = (k : ℕ) → k < j → cause_at L most k (state_after L k) ≡ None

  unsaid_more : (most j : ℕ) → Unsaid most j → cause_at L most j (state_after L j) ≡ None → Unsaid most (suc j)
  unsaid_more most j before none k lt = go (cases_lt k j)
    where
      go : (k < j) ⊎ (j ≤ k) → cause_at L most k (state_after L k) ≡ None
      go (inl less) = before k less
      go (inr past) = (let same : j ≡ k = omega arith in subst (λ i. cause_at L most i (state_after L i) ≡ None) same none)

  search_first : (most j : ℕ) → j ≤ most → Unsaid most j ⊎ Said most
  search_first most zero le = inl (λ k lt. absurd (omega arith))
  search_first most (suc j) le = go (search_first most j (omega arith)) (cause_at L most j (state_after L j)) refl
    where
      go : Unsaid most j ⊎ Said most → (o : Option SnapCause) → cause_at L most j (state_after L j) ≡ o → Unsaid most (suc j) ⊎ Said most
      go (inr said) o e = inr said
      go (inl before) None e = inl (unsaid_more most j before e)
      go (inl before) (Some c) e = inr (j, c, omega arith, record { before = before; here = e })

  some_first : (most : ℕ) → Said most
  some_first most = go (search_first most most (omega arith))
    where
      go : Unsaid most most ⊎ Said most → Said most
      go (inr said) = said
      go (inl before) = (let last = said_last most (stages most most before) in (most, last.0, omega arith, record { before = before; here = last.1 }))

pub first_is_just_started : SetRunIsSound → SetStepIsSound → EntryIsThere → SetRunKeeps → FirstIsJustStarted
first_is_just_started sound steps entries keeps L mergeable bytes most n first = first_started sound steps entries keeps L mergeable bytes most n first

pub first_is_there : SetRunIsSound → SetStepIsSound → EntryIsThere → SetRunKeeps → SomeFirst
first_is_there sound steps entries keeps L mergeable bytes most = some_first sound steps entries keeps L mergeable bytes most

-- there is no other
pub one_first : OneFirst
one_first L most n m c d one other = go (cases_lt n m) (cases_lt m n)
  where
    never : (i : ℕ) (e : SnapCause) → cause_at L most i (state_after L i) ≡ Some e → cause_at L most i (state_after L i) ≡ None → ⊥
    never i e some none = (let bad : Some e ≡ None = sym some ∙ none in cc)

    go : (n < m) ⊎ (m ≤ n) → (m < n) ⊎ (n ≤ m) → (n ≡ m) × (c ≡ d)
    go (inl less) more = absurd (never n c one.here (other.before n less))
    go (inr past) (inl less) = absurd (never m d other.here (one.before m less))
    go (inr past) (inr back) =
        let same : m ≡ n = omega arith in
        (sym same, some_same (sym one.here ∙ subst (λ i. cause_at L most i (state_after L i) ≡ Some d) same other.here))
