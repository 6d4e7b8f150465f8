-- What is told of a step that was made, and what further steps of code make of a run.
use Rattle.std.proofs.Common.{◌≡◌, ◌≢◌, ◌⊎◌, ℕ, zero, suc, ◌+◌, ◌<◌, ◌≤◌, List, [], ◌∷◌, map, reverse, Option, Some, Bool, true, false, refl, sym, ap, ◌∙◌, subst, inl, inr, ⊎_elim, arith}
use Rattle.std.proofs.lemmas.Bool.{cases_lt}
use Rattle.wasm_form.specs.declared.runtime.Trap.{Trap}
use Rattle.wasm_form.specs.declared.runtime.Value.{Value}
use Rattle.wasm_form.specs.declared.runtime.Value.TheVariants.{Num}
use Rattle.wasm_form.specs.declared.runtime.Answer.{Answer}
use Rattle.wasm_form.specs.declared.runtime.Answer.TheVariants as answer
use Rattle.spec_safety.specs.spec_runs.Systems.{Status, Moving, Waits, Returned, Exited, Trapped}
use Rattle.spec_safety.specs.spec_runtime.Names.{HostName}
use Rattle.spec_safety.specs.spec_runtime.Hosts.{HostCall, all_written}
use Rattle.spec_safety.specs.spec_runtime.Recorded.{Recorded, has_ended, waits}
use Rattle.spec_safety.specs.spec_execution.Runs.{Frame, State, returned, taken}
use Rattle.wasm_step.specs.declared.done.Done.{Done}
use Rattle.wasm_step.specs.declared.done.Done.TheVariants as done
use Rattle.wasm_machine.specs.declared.machine.Standing.{Standing}
use Rattle.wasm_machine.specs.declared.machine.Standing.TheVariants as standing
use Rattle.wasm_machine.specs.declared.event.Event.{Event}
use Rattle.wasm_machine.specs.declared.event.Event.TheVariants as event
use Rattle.spec_safety.specs.spec_runtime.Courses.{Course, after, state_at, status_at, IsAt, with_step}
use Rattle.wasm_machine.specs.Iterated.{Iterated}
use Rattle.wasm_machine.specs.Steps.{TellsStatus, event_of, steps_told, StepMade, RunStepped, Advances, AreOfCode}
use Rattle.wasm_machine.proofs.Courses.{TakesLast, at_moved}

-- what is told of a run that waits for a host function tells that alone
pub not_waiting : (host : ℕ → Option HostName) (e : Event) (status : Status HostCall Trap) → ((call : HostCall) → TellsStatus host e (Waits call) → ⊥) → TellsStatus host e status
    → waits status ≡ false
not_waiting host e Moving none tells = refl
not_waiting host e (Waits call) none tells = absurd (none call tells)
not_waiting host e Returned none tells = refl
not_waiting host e (Exited code) none tells = refl
not_waiting host e (Trapped why) none tells = refl

-- no run waits once it was given values, or has taken an answer
pub returned_goes : {Units Mark : Type 0} (s : State Units Mark) (values : List Value) (frames : List (Frame Mark)) → waits (returned s values frames).status ≡ false
returned_goes s values [] = refl
returned_goes s values (f ∷ fs) = refl

pub taken_goes : {Units Mark : Type 0} (a : Answer) (s : State Units Mark) → waits (taken a s).status ≡ false
taken_goes (answer.Reply results writes) s = returned_goes (record s { memory = all_written writes s.memory }) (reverse (map Num results)) s.stack
taken_goes (answer.Exit code) s = refl

-- where no step was made in few bytes, code didn't go on, and memory wasn't wanting
abbrev pub IsLeft : Done → Type 0
IsLeft d = (d ≡ done.Exited) ⊎ (d ≡ done.Marked) ⊎ (d ≡ done.Deep) ⊎ (d ≡ done.Outside)

module _ (d : Done) where
  pub left_more : IsLeft d → d ≢ done.Goes
  left_more (inl e) goes = cc
  left_more (inr (inl e)) goes = cc
  left_more (inr (inr (inl e))) goes = cc
  left_more (inr (inr (inr e))) goes = cc

pub one_told : (st : Standing) → steps_told (event_of st) ≡ 1
one_told standing.Moving = refl
one_told (standing.Asking entry count) = refl
one_told standing.Loading = refl
one_told standing.Returned = refl
one_told (standing.Trapped why) = refl
one_told (standing.Exited code) = refl
one_told standing.Lost = refl

-- ---- a step that was made

-- a run stands at a state after a step that is told so
pub record IsStepped (C : Course) (e : Event) (x y : Recorded) (t : C.system.State) : Type 0 where
  pub stands : IsAt C y
  pub reaches : state_at C y ≡ t
  pub stepped : RunStepped C e x y

module _ (C : Course) where
  told_made : (e : Event) (x y : Recorded) → steps_told e ≡ 1 → StepMade C e x y → (status_at C x ≡ Moving → C.deep (state_at C x) ≡ false) → RunStepped C e x y
  told_made event.Moved x y one made deep = inl (made, deep)
  told_made (event.Waits asked) x y one made deep = inl (made, deep)
  told_made (event.Loader which first second) x y one made deep = inl (made, deep)
  told_made (event.Marked tag) x y one made deep = inl (made, deep)
  told_made event.Returned x y one made deep = inl (made, deep)
  told_made (event.Trapped why) x y one made deep = inl (made, deep)
  told_made (event.Exited code) x y one made deep = inl (made, deep)
  told_made event.Deep x y one made deep = absurd cc

  -- the run stands at this state one step later
  made_at : (e : Event) (x : Recorded) (t : C.system.State) → steps_told e ≡ 1 → has_ended (status_at C x) ≡ false → IsAt C (with_step x) → state_at C (with_step x) ≡ t
      → TellsStatus C.host e (C.system.status t) → (status_at C x ≡ Moving → C.deep (state_at C x) ≡ false) → IsStepped C e x (with_step x) t
  made_at e x t one unended stands reaches tells deep =
      let told : TellsStatus C.host e (status_at C (with_step x)) = subst (λ (s : C.system.State). TellsStatus C.host e (C.system.status s)) (sym reaches) tells in
      record { stands = stands; reaches = reaches; stepped = told_made e x (with_step x) one (unended, refl, stands, told) deep }

  -- a step of a run that goes on
  pub moved : (e : Event) (x : Recorded) (steps : ℕ) (t : C.system.State) → IsAt C x → status_at C x ≡ Moving → steps ≡ suc x.steps → steps_told e ≡ 1
      → C.deep (state_at C x) ≡ false → C.system.step (state_at C x) ≡ Some t → TellsStatus C.host e (C.system.status t) → IsStepped C e x (record x { steps = steps }) t
  moved e x steps t at moving count one flat made tells =
      let m = at_moved C x at t moving made in
      let same : record x { steps = steps } ≡ with_step x = λ i. record x { steps = count i; answered = m.0 i } in
      subst (λ (y : Recorded). IsStepped C e x y t) (sym same) (made_at e x t one (ap has_ended moving) m.1 m.2 tells (λ _. flat))

  -- the step of a run that takes an answer
  pub took : (e : Event) (x : Recorded) (steps : ℕ) (call : HostCall) (a : Answer) (takes : TakesLast C x call) → takes.answer ≡ a → status_at C x ≡ Waits call → steps ≡ suc x.steps
      → steps_told e ≡ 1 → TellsStatus C.host e (C.system.status (C.system.take a (state_at C x)))
      → IsStepped C e x (record x { steps = steps; answered = false }) (C.system.take a (state_at C x))
  took e x steps call a takes last waiting count one tells =
      let same : record x { steps = steps; answered = false } ≡ with_step x = λ i. record x { steps = count i; answered = false } in
      let reaches = takes.reaches ∙ ap (λ b. C.system.take b (state_at C x)) last in
      subst (λ (y : Recorded). IsStepped C e x y (C.system.take a (state_at C x))) (sym same)
      (made_at e x (C.system.take a (state_at C x)) one (ap has_ended waiting) takes.stands reaches tells (λ moving. absurd (let clash : Waits call ≡ Moving = sym waiting ∙ moving in cc)))

  -- a run that has ended is told again
  pub told_again : (e : Event) (x : Recorded) → steps_told e ≡ 1 → has_ended (status_at C x) ≡ true → TellsStatus C.host e (status_at C x) → RunStepped C e x x
  told_again event.Moved x one ended tells = inr (ended, tells, refl)
  told_again (event.Waits asked) x one ended tells = inr (ended, tells, refl)
  told_again (event.Loader which first second) x one ended tells = inr (ended, tells, refl)
  told_again (event.Marked tag) x one ended tells = inr (ended, tells, refl)
  told_again event.Returned x one ended tells = inr (ended, tells, refl)
  told_again (event.Trapped why) x one ended tells = inr (ended, tells, refl)
  told_again (event.Exited code) x one ended tells = inr (ended, tells, refl)
  told_again event.Deep x one ended tells = absurd cc

-- ---- further steps of code

-- what is recorded after so many steps of code
abbrev pub advanced : Recorded → ℕ → Bool → Recorded
advanced x steps lost = record x { steps = steps; lost = lost }

-- no step was made
pub none_of_code : (C : Course) (x : Recorded) → AreOfCode C x x
none_of_code C x = record { free = λ k from to. absurd (omega arith); unasked = λ more. absurd (omega arith) }

module _ (most : ℕ) (v x : Recorded) (a : Advances most v x) (steps : ℕ) (lost : Bool) where
  same_start : advanced x steps lost ≡ advanced v steps lost
  same_start = ap (λ (z : Recorded). advanced z steps lost) a.same

  -- none more was made
  pub kept_advances : steps ≡ x.steps → Advances most v (advanced x steps lost)
  kept_advances e = record {
    same = same_start;
    more = let h = a.more in omega arith;
    few = subst (λ n. (n ≡ v.steps) ⊎ (n ≤ most)) (sym e) a.few;
  }

  -- one more was made
  pub made_advances : x.steps < most → steps ≡ suc x.steps → Advances most v (advanced x steps lost)
  made_advances below e = record {
    same = same_start;
    more = let h = a.more in omega arith;
    few = inr (omega arith);
  }

-- there are no more steps than may be made
pub few_steps : (most : ℕ) (x y : Recorded) → Advances most x y → x.steps ≤ most → y.steps ≤ most
few_steps most x y a few = go a.few
  where
    go : (y.steps ≡ x.steps) ⊎ (y.steps ≤ most) → y.steps ≤ most
    go (inl same) = subst (λ n. n ≤ most) (sym same) few
    go (inr within) = within

module _ (C : Course) (x : Recorded) (at : IsAt C x) (steps : ℕ) (lost : Bool) (found : lost ≡ false) where
  none_lost : lost ≡ x.lost
  none_lost = found ∙ sym at.found

  -- it stands where it stood
  pub kept_at : steps ≡ x.steps → IsAt C (advanced x steps lost) × (state_at C (advanced x steps lost) ≡ state_at C x)
  kept_at e =
      let same : advanced x steps lost ≡ x = λ i. advanced x (e i) (none_lost i) in
      (subst (IsAt C) (sym same) at, ap (state_at C) same)

  -- it stands at the state that its step leads to
  pub made_one : (t : C.system.State) → status_at C x ≡ Moving → C.system.step (state_at C x) ≡ Some t → steps ≡ suc x.steps
      → IsAt C (advanced x steps lost) × (state_at C (advanced x steps lost) ≡ t)
  made_one t moving made e =
      let m = at_moved C x at t moving made in
      let same : advanced x steps lost ≡ with_step x = λ i. record x { steps = e i; lost = none_lost i; answered = m.0 i } in
      (subst (IsAt C) (sym same) m.1, ap (state_at C) same ∙ m.2)

module _ (C : Course) (v x : Recorded) (same : x.answers ≡ v.answers) (code : AreOfCode C v x) (steps : ℕ) (lost : Bool) where
  -- none more was made
  pub kept_code : steps ≡ x.steps → AreOfCode C v (advanced x steps lost)
  kept_code e = record {
    free = λ k from to. code.free k from (omega arith);
    unasked = λ more. subst (λ n. waits (C.system.status (after C n x.answers).state) ≡ false) (sym e) (code.unasked (omega arith));
  }

  -- one more was made
  pub made_code : IsAt C x → (t : C.system.State) → status_at C x ≡ Moving → C.deep (state_at C x) ≡ false → C.system.step (state_at C x) ≡ Some t → waits (C.system.status t) ≡ false
      → steps ≡ suc x.steps → AreOfCode C v (advanced x steps lost)
  made_code at t moving flat made goes e =
      let m = at_moved C x at t moving made in
      let IsFree : ℕ → List Answer → Type 0 = λ k given. (C.system.status (after C k given).state ≡ Moving) × (C.deep (after C k given).state ≡ false) in
      record {
        free = λ k from to. ⊎_elim (λ (h : k < x.steps). code.free k from h) (λ (h : x.steps ≤ k).
            let here : x.steps ≡ k = omega arith in
            subst (λ given. IsFree k given) same (subst (λ n. IsFree n x.answers) here (moving, flat))) (cases_lt k x.steps);
        unasked = λ more.
            subst (λ n. waits (C.system.status (after C n x.answers).state) ≡ false) (sym e)
            (ap (λ (s : C.system.State). waits (C.system.status s)) m.2 ∙ goes);
      }

-- a step that passes no limit of depth and leads to a state that goes on
abbrev pub OneStep : (C : Course) → C.system.State → C.system.State → Type 0
OneStep C s t = (C.deep s ≡ false) × (C.system.step s ≡ Some t) × (C.system.status t ≡ Moving)

module _ (C : Course) (v : Recorded) (at : IsAt C v) (moving : status_at C v ≡ Moving) where
  -- the run stands at a state after so many steps in all
  pub record IsReached (steps : ℕ) (t : C.system.State) : Type 0 where
    pub stands : IsAt C (advanced v steps v.lost)
    pub reaches : state_at C (advanced v steps v.lost) ≡ t
    pub goes : C.system.status t ≡ Moving
    pub code : AreOfCode C v (advanced v steps v.lost)

  pub made_many : (n steps : ℕ) (t : C.system.State) → steps ≡ v.steps + n → Iterated (OneStep C) n (state_at C v) t → IsReached steps t
  made_many zero steps t e same =
      let none : steps ≡ v.steps = omega arith in
      let kept = kept_at C v at steps v.lost at.found none in
      record { stands = kept.0; reaches = kept.1 ∙ sym same; goes = ap C.system.status same ∙ moving; code = kept_code C v v refl (none_of_code C v) steps v.lost none }
  made_many (suc n) steps t e made =
      let r = made_many n (v.steps + n) made.0 refl made.1 in
      let x = advanced v (v.steps + n) v.lost in
      let one : steps ≡ suc x.steps = omega arith in
      let on : status_at C x ≡ Moving = ap C.system.status r.reaches ∙ r.goes in
      let flat : C.deep (state_at C x) ≡ false = ap C.deep r.reaches ∙ made.2.0 in
      let step : C.system.step (state_at C x) ≡ Some t = ap C.system.step r.reaches ∙ made.2.1 in
      let m = made_one C x r.stands steps v.lost at.found t on step one in
      record { stands = m.0; reaches = m.1; goes = made.2.2; code = made_code C v x refl r.code steps v.lost r.stands t on flat step (ap waits made.2.2) one }

-- up to so many in all
pub many_advances : (most : ℕ) (v : Recorded) (n : ℕ) → v.steps + n ≤ most → Advances most v (advanced v (v.steps + n) v.lost)
many_advances most v n few = record { same = refl; more = omega arith; few = inr few }
