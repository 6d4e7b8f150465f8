-- What is so of the states of a start-up.
use Rattle.std.proofs.Common.{◌≡◌, ◌⊎◌, inl, inr, ℕ, zero, suc, ◌+◌, ◌<◌, ◌≤◌, List, [], ◌∷◌, nat_eq, Option, Some, None, IfSome, Bool, true, false, ◌&&◌, if◌then◌else◌, refl, sym, ap, ◌∙◌, subst, arith, ⊎_elim}
use Rattle.std.specs.Prelude.{not, unwrap_or, ◌-◌}
use Rattle.std.specs.List.{list_any}
use Rattle.std.proofs.lemmas.Bool.{cases_lt, eqb-true}
use Rattle.spec_loading.specs.wasm_form.declared.runtime.Trap.{Trap}
use Rattle.spec_loading.specs.wasm_form.declared.runtime.Answer.{Answer}
use Rattle.spec_loading.specs.spec_runs.Systems.{Status, Moving, Waits, Returned, Exited, Trapped, Ran, run, next_at, with_rest, with_next}
use Rattle.spec_loading.proofs.of_spec_runs.Runs.{run_last}
use Rattle.spec_loading.specs.spec_runtime.Hosts.{HostCall, hosts}
use Rattle.spec_loading.specs.spec_runtime.Names.{HostName}
use Rattle.spec_loading.specs.spec_runtime.Recorded.{Recorded, has_ended, waits}
use Rattle.spec_loading.specs.spec_runtime.Courses.{Course, state_at, status_at, is_waiting, with_step}
use Rattle.spec_loading.specs.spec_execution.Runs.{Frame, is_running}
use Rattle.spec_loading.specs.spec_execution.Runs as frames
use Rattle.spec_loading.specs.spec_linking.LinkedSets.{LinkedSet}
use Rattle.spec_loading.specs.Phases.{LoaderFrame}
use Rattle.spec_loading.specs.Loading.{Loading, loaded_step, loaded_too_deep}
use Rattle.spec_loading.specs.Members.{Store}
use Rattle.spec_loading.specs.LoadedSet.{SetState, set_loading, set_system, set_opening, set_run}
use Rattle.wasm_machine.specs.declared.event.Event.{Event}
use Rattle.wasm_machine.specs.declared.event.Event.TheVariants as event
use Rattle.wasm_form.specs.declared.runtime.Asked.{Asked}
use Rattle.wasm_machine.specs.Steps.{TellsStatus, RunStepped, StepMade, Advances, AreOfCode}
use Rattle.wasm_machine.proofs.Steps.{few_steps}
use Rattle.dyl_store.specs.Stores.{StoreRun, set_course, is_moving, is_deep_at, HadCodeOnTop}
use Rattle.spec_loading.specs.SoundSets.{HoldBytes}
use Rattle.merge_module.specs.Laws.{IsMergeable}
use Rattle.spec_snapshots.specs.Causes.{SnapCause, IsFirst, goes_on, is_startup, is_started, Takes, IsDeep, cause_by, cause_at, state_after}
use Rattle.snap_set.specs.Laws.{SomeFirst}
use Rattle.snap_set.proofs.Bottom.{Starts, StateStarts, calling_frame, step_over}
use Rattle.snap_merge.specs.StartUp.{IsStarting, NoneBefore, IsUnstarted, IsMoving}

-- ---- causes

cause_unstarted : (L : LinkedSet) (most n : ℕ) → IsUnstarted L n
    → cause_at L most n (state_after L n) ≡ cause_by (nat_eq n most) (loaded_too_deep (set_loading L) (state_after L n)) (state_after L n).run.status
cause_unstarted L most n e =
    ap (λ (b : Bool). if b then Some Takes else cause_by (nat_eq n most) (loaded_too_deep (set_loading L) (state_after L n)) (state_after L n).run.status) e

never_used : (n most : ℕ) → n < most → nat_eq n most ≡ false
never_used n most lt = go (nat_eq n most) refl
  where
    go : (b : Bool) → nat_eq n most ≡ b → b ≡ false
    go true e = absurd (let same : n ≡ most = eqb-true n most e in omega arith)
    go false e = refl

module _ (L : LinkedSet) (most n : ℕ) (unstarted : IsUnstarted L n) where
  -- a state that goes on by itself
  pub cause_moving : IsMoving L n → n < most → loaded_too_deep (set_loading L) (state_after L n) ≡ false → cause_at L most n (state_after L n) ≡ None
  cause_moving moving lt flat =
      let used = never_used n most lt in
      cause_unstarted L most n unstarted ∙ rw (moving, used, flat) refl

  -- and of one whose next step is too deep, this is to be said
  pub cause_deep : IsMoving L n → n < most → loaded_too_deep (set_loading L) (state_after L n) ≡ true → cause_at L most n (state_after L n) ≡ Some IsDeep
  cause_deep moving lt deep =
      let used = never_used n most lt in
      cause_unstarted L most n unstarted ∙ rw (moving, used, deep) refl

-- ---- what is told of how it stands

pub told_moving : (host : ℕ → Option HostName) (st : Status HostCall Trap) → TellsStatus host event.Moved st → st ≡ Moving
told_moving host Moving t = refl
told_moving host (Waits call) t = absurd t
told_moving host Returned t = absurd t
told_moving host (Exited code) t = absurd t
told_moving host (Trapped why) t = absurd t

-- ---- where it stands

module _ (L : LinkedSet) (most : ℕ) (v : StoreRun) (starting : IsStarting most v) where
  abbrev n : ℕ
  n = v.run.steps

  pub here_is : state_at (set_course L) v.run ≡ state_after L n
  here_is = ap (λ (given : List Answer). (run (set_system L) n (set_opening L) given).state) starting.none

  pub status_is : status_at (set_course L) v.run ≡ (state_after L n).run.status
  status_is = ap (λ (s : SetState). s.run.status) here_is

  -- whether the next step is too deep
  pub deep_is : IsMoving L n → (b : Bool) → b ≡ is_deep_at (set_course L) v.run → loaded_too_deep (set_loading L) (state_after L n) ≡ b
  deep_is moving b told =
      sym (told ∙ ap (λ (s : SetState). is_moving s.run.status && loaded_too_deep (set_loading L) s) here_is
      ∙ ap (λ (st : Status HostCall Trap). is_moving st && loaded_too_deep (set_loading L) (state_after L n)) moving)

  pub not_waiting : IsMoving L n → is_waiting (set_course L) v.run ≡ false
  not_waiting moving =
      ap (λ (b : Bool). not b && waits (status_at (set_course L) v.run)) starting.unasked ∙ ap waits (status_is ∙ moving)

-- ---- one step more

module _ (L : LinkedSet) where
  abbrev D : Loading Store
  D = set_loading L

  abbrev ran : ℕ → Ran hosts SetState
  ran n = set_run L [] n

  next_is : (n : ℕ) → IsMoving L n → (o : Option SetState) → loaded_step D (state_after L n) ≡ o → state_after L (suc n) ≡ unwrap_or o (state_after L n)
  next_is n moving o step =
      let S = set_system L in
      let r = ran n in
      let e : next_at S r.state.run.status r.state r.left ≡ with_rest r.left o = ap (λ st. next_at S st r.state r.left) moving ∙ ap (with_rest r.left) step in
      ap (λ (q : Ran hosts SetState). q.state) (run_last S n (set_opening L) [] ∙ ap (with_next S r) e) ∙ reached o
    where
      reached : (o : Option SetState) → (with_next (set_system L) (ran n) (with_rest (ran n).left o)).state ≡ unwrap_or o (state_after L n)
      reached None = refl
      reached (Some t) = refl

  frame_there : (s : SetState) → s.run.status ≡ Moving → is_started s ≡ false → Starts s.run.stack
  frame_there s moving unstarted = go (list_any is_startup s.run.stack) (sym (ap (λ (st : Status HostCall Trap). goes_on st && not (list_any is_startup s.run.stack)) moving) ∙ unstarted)
    where
      go : (b : Bool) → not b ≡ false → b ≡ true
      go true e = refl
      go false e = absurd (let clash : true ≡ false = e in cc)

  and_none : (b : Bool) → (b && false) ≡ false
  and_none true = refl
  and_none false = refl

  still_unstarted : (s : SetState) → StateStarts D s → is_started s ≡ false
  still_unstarted s (inl k) = ap (λ (b : Bool). goes_on s.run.status && not b) k.0 ∙ and_none (goes_on s.run.status)
  still_unstarted s (inr trapped) = ap (λ (st : Status HostCall Trap). goes_on st && not (list_any is_startup s.run.stack)) trapped.1

  -- a step of code doesn't call the entry
  unstarted_next : (n : ℕ) → IsMoving L n → is_running (state_after L n).run.stack ≡ true → IsUnstarted L n → IsUnstarted L (suc n)
  unstarted_next n moving code unstarted = by (loaded_step D (state_after L n)) refl (step_over D (state_after L n) (frame_there (state_after L n) moving unstarted))
    where
      by : (o : Option SetState) → loaded_step D (state_after L n) ≡ o
          → IfSome (loaded_step D (state_after L n)) (StateStarts D) ⊎ ((under : List (Frame LoaderFrame)) × ((state_after L n).run.stack ≡ frames.Marked (calling_frame D) ∷ under))
          → IsUnstarted L (suc n)
      by o step (inr calling) = absurd (let clash : true ≡ false = sym code ∙ ap is_running calling.1 in cc)
      by None step (inl over) = subst (λ (s : SetState). is_started s ≡ false) (sym (next_is n moving None step)) unstarted
      by (Some t) step (inl over) =
          subst (λ (s : SetState). is_started s ≡ false) (sym (next_is n moving (Some t) step))
          (still_unstarted t (subst (λ (o : Option SetState). IfSome o (StateStarts D)) step over))

  -- ---- further steps of code

  module _ (most : ℕ) (old new : StoreRun) (starting : IsStarting most old) (before : NoneBefore L most old.run.steps) (unstarted : IsUnstarted L old.run.steps)
      (few : new.run.steps ≤ most) (code : AreOfCode (set_course L) old.run new.run) (tops : HadCodeOnTop L old.run new.run) where
    abbrev IsFree : SetState → Type 0
    IsFree s = ((s.run.status ≡ Moving) × (loaded_too_deep D s ≡ false)) × (is_running s.run.stack ≡ true)

    free_at : (k : ℕ) → old.run.steps ≤ k → k < new.run.steps → IsFree (state_after L k)
    free_at k from to =
        subst (λ (given : List Answer). IsFree (run (set_system L) k (set_opening L) given).state) starting.none (code.free k from to, tops k from to)

    later : (d : ℕ) → old.run.steps + d ≤ new.run.steps → IsUnstarted L (old.run.steps + d)
    later zero le = subst (IsUnstarted L) (let e : old.run.steps ≡ old.run.steps + 0 = omega arith in e) unstarted
    later (suc d) le =
        let k = old.run.steps + d in
        let free = free_at k (omega arith) (omega arith) in
        let next : suc k ≡ old.run.steps + suc d = omega arith in
        subst (IsUnstarted L) next (unstarted_next k free.0.0 free.1 (later d (omega arith)))

    unstarted_at : (k : ℕ) → old.run.steps ≤ k → k ≤ new.run.steps → IsUnstarted L k
    unstarted_at k from to =
        let place : old.run.steps + (k - old.run.steps) ≡ k = omega arith in
        subst (IsUnstarted L) place (later (k - old.run.steps) (omega arith))

    pub unstarted_then : old.run.steps ≤ new.run.steps → IsUnstarted L new.run.steps
    unstarted_then more = unstarted_at new.run.steps more (omega arith)

    pub none_then : NoneBefore L most new.run.steps
    none_then k lt = ⊎_elim (λ (h : k < old.run.steps). before k h) (λ (h : old.run.steps ≤ k).
        let free = free_at k h lt in
        cause_moving L most k (unstarted_at k h (omega arith)) free.0.0 (omega arith) free.0.1) (cases_lt k old.run.steps)

-- ---- what is recorded

pub starting_then : (most : ℕ) (old new : StoreRun) → IsStarting most old → Advances most old.run new.run → new.run.lost ≡ false → IsStarting most new
starting_then most old new starting more found = record {
  found = found;
  none = ap (λ (x : Recorded). x.answers) more.same ∙ starting.none;
  unasked = ap (λ (x : Recorded). x.answered) more.same ∙ starting.unasked;
  few = few_steps most old.run new.run more starting.few;
}

-- a step of a run that goes on by itself was made
module _ (C : Course) (x y : Recorded) (moving : status_at C x ≡ Moving) (flat : C.deep (state_at C x) ≡ false) where
  by_either : (e : Event) → (StepMade C e x y × (status_at C x ≡ Moving → C.deep (state_at C x) ≡ false)) ⊎ ((has_ended (status_at C x) ≡ true) × TellsStatus C.host e (status_at C x) × (y ≡ x)) → y ≡ with_step x
  by_either e (inl made) = made.0.1
  by_either e (inr again) = absurd (let clash : true ≡ false = sym again.0 ∙ ap has_ended moving in cc)

  pub step_made : (e : Event) → RunStepped C e x y → y ≡ with_step x
  step_made event.Deep h = absurd (let clash : true ≡ false = sym h.1 ∙ flat in cc)
  step_made event.Moved h = by_either event.Moved h
  step_made (event.Waits asked) h = by_either (event.Waits asked) h
  step_made (event.Loader which first second) h = by_either (event.Loader which first second) h
  step_made (event.Marked tag) h = by_either (event.Marked tag) h
  step_made event.Returned h = by_either event.Returned h
  step_made (event.Trapped why) h = by_either (event.Trapped why) h
  step_made (event.Exited code) h = by_either (event.Exited code) h

-- ---- one more has nothing to be said

pub none_with : (L : LinkedSet) (most n m : ℕ) → NoneBefore L most n → cause_at L most n (state_after L n) ≡ None → m ≡ suc n → NoneBefore L most m
none_with L most n m before here is k lt = ⊎_elim (λ (h : k < n). before k h) (λ (h : n ≤ k).
    let same : n ≡ k = omega arith in
    subst (λ (j : ℕ). cause_at L most j (state_after L j) ≡ None) same here) (cases_lt k n)

-- ---- a start-up neither returns nor exits

moving_told : (host : ℕ → Option HostName) (e : Event) → TellsStatus host e Moving → e ≡ event.Moved
moving_told host event.Moved t = refl
moving_told host (event.Waits asked) t = absurd t
moving_told host (event.Loader which first second) t = absurd t
moving_told host (event.Marked tag) t = absurd t
moving_told host event.Returned t = absurd t
moving_told host (event.Trapped why) t = absurd t
moving_told host (event.Exited code) t = absurd t
moving_told host event.Deep t = absurd t

waits_told : (host : ℕ → Option HostName) (call : HostCall) (e : Event) → TellsStatus host e (Waits call) → (asked : Asked) × (e ≡ event.Waits asked)
waits_told host call event.Moved t = absurd t
waits_told host call (event.Waits asked) t = (asked, refl)
waits_told host call (event.Loader which first second) t = absurd t
waits_told host call (event.Marked tag) t = absurd t
waits_told host call event.Returned t = absurd t
waits_told host call (event.Trapped why) t = absurd t
waits_told host call (event.Exited code) t = absurd t
waits_told host call event.Deep t = absurd t

trapped_told : (host : ℕ → Option HostName) (why : Trap) (e : Event) → TellsStatus host e (Trapped why) → (w : Trap) × (e ≡ event.Trapped w)
trapped_told host why event.Moved t = absurd t
trapped_told host why (event.Waits asked) t = absurd t
trapped_told host why (event.Loader which first second) t = absurd t
trapped_told host why (event.Marked tag) t = absurd t
trapped_told host why event.Returned t = absurd t
trapped_told host why (event.Trapped w) t = (w, refl)
trapped_told host why (event.Exited code) t = absurd t
trapped_told host why event.Deep t = absurd t

-- it has returned or exited
abbrev pub IsOver : Status HostCall Trap → Type 0
IsOver Returned = Unit {0}
IsOver (Exited code) = Unit {0}
IsOver _ = ⊥

pub over_told : (host : ℕ → Option HostName) (e : Event) (st : Status HostCall Trap) → TellsStatus host e st → (e ≡ event.Moved → ⊥) → ((asked : Asked) → e ≡ event.Waits asked → ⊥)
    → ((why : Trap) → e ≡ event.Trapped why → ⊥) → IsOver st
over_told host e Moving t moved waited trapped = absurd (moved (moving_told host e t))
over_told host e (Waits call) t moved waited trapped = (let w = waits_told host call e t in absurd (waited w.0 w.1))
over_told host e Returned t moved waited trapped = tt
over_told host e (Exited code) t moved waited trapped = tt
over_told host e (Trapped why) t moved waited trapped = (let w = trapped_told host why e t in absurd (trapped w.0 w.1))

over_none : (used deep : Bool) (st : Status HostCall Trap) → IsOver st → cause_by used deep st ≡ None
over_none used deep Moving over = absurd over
over_none used deep (Waits call) over = absurd over
over_none used deep Returned over = refl
over_none used deep (Exited code) over = refl
over_none used deep (Trapped why) over = absurd over

module _ (L : LinkedSet) where
  no_next : (s : SetState) (left : List Answer) (st : Status HostCall Trap) → IsOver st → next_at (set_system L) st s left ≡ None
  no_next s left Moving over = absurd over
  no_next s left (Waits call) over = absurd over
  no_next s left Returned over = refl
  no_next s left (Exited code) over = refl
  no_next s left (Trapped why) over = absurd over

  over_stays : (n : ℕ) → IsOver (state_after L n).run.status → state_after L (suc n) ≡ state_after L n
  over_stays n over =
      let r = set_run L [] n in
      ap (λ (q : Ran hosts SetState). q.state) (run_last (set_system L) n (set_opening L) [] ∙ ap (with_next (set_system L) r) (no_next r.state r.left r.state.run.status over))

  over_later : (n d : ℕ) → IsOver (state_after L n).run.status → state_after L (n + d) ≡ state_after L n
  over_later n zero over = ap (state_after L) (let e : n + 0 ≡ n = omega arith in e)
  over_later n (suc d) over =
      let same = over_later n d over in
      let next : n + suc d ≡ suc (n + d) = omega arith in
      ap (state_after L) next ∙ over_stays (n + d) (subst (λ (s : SetState). IsOver s.run.status) (sym same) over) ∙ same

  pub never_over : SomeFirst → IsMergeable L → HoldBytes L → (most n : ℕ) → NoneBefore L most n → IsUnstarted L n → IsOver (state_after L n).run.status → ⊥
  never_over law able bytes most n before unstarted over = go (law L able bytes most)
    where
      none_at : (m : ℕ) → n ≤ m → cause_at L most m (state_after L m) ≡ None
      none_at m from =
          let place : n + (m - n) ≡ m = omega arith in
          let same : state_after L m ≡ state_after L n = ap (state_after L) (sym place) ∙ over_later n (m - n) over in
          let still : IsUnstarted L m = subst (λ (s : SetState). is_started s ≡ false) (sym same) unstarted in
          cause_unstarted L most m still ∙ over_none (nat_eq m most) (loaded_too_deep (set_loading L) (state_after L m)) (state_after L m).run.status (subst (λ (s : SetState). IsOver s.run.status) (sym same) over)

      none_here : (m : ℕ) → cause_at L most m (state_after L m) ≡ None
      none_here m = ⊎_elim (λ (h : m < n). before m h) (λ (h : n ≤ m). none_at m h) (cases_lt m n)

      go : (n' : ℕ) × (c : SnapCause) × (n' ≤ most) × IsFirst L most n' c → ⊥
      go first = (let clash : None ≡ Some first.1 = sym (none_here first.0) ∙ first.3.here in cc)
