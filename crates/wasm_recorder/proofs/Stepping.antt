-- What a step makes of the run.
use Rattle.std.proofs.Common.{◌≡◌, ℕ, ◌+◌, ◌-◌, List, length, slice_get, Option, Some, None, Bool, true, false, IsTrue, refl, sym, ap, ◌∙◌, subst, arith}
use Rattle.std.proofs.lemmas.Option.{same_Some}
use Rattle.wasm_form.specs.declared.runtime.Trap.{Trap}
use Rattle.wasm_form.specs.declared.runtime.Answer.{Answer}
use Rattle.spec_safety.specs.spec_runs.Systems.{Status, Moving, Waits}
use Rattle.spec_safety.specs.spec_runtime.Names.{HostName}
use Rattle.spec_safety.specs.spec_runtime.Hosts.{HostCall, answer_fits}
use Rattle.spec_safety.specs.spec_runtime.Recorded.{Recorded, has_ended, waits, FitsWait}
use Rattle.spec_safety.specs.spec_runtime.Courses.{Course, state_at, status_at, memory_at, IsAt, is_waiting}
use Rattle.wasm_machine.specs.declared.machine.Standing.{Standing}
use Rattle.wasm_machine.specs.declared.machine.Standing.TheVariants as standing
use Rattle.wasm_machine.specs.declared.event.Event.{Event}
use Rattle.wasm_machine.specs.declared.event.Event.TheVariants as event
use Rattle.wasm_machine.specs.Steps.{TellsStatus, event_of, steps_told, RunStepped, Awaits}
use Rattle.wasm_machine.proofs.Courses.{TakesLast, at_taken, answered_wait, read_last}
use Rattle.wasm_machine.proofs.Steps.{moved, one_told, took, told_again}
use Rattle.wasm_recorder.specs.Bares.{Bares, StandsSo}
use Rattle.wasm_recorder.specs.Runs.{IsSomewhere, Makes, Steps, StepsFrom, WantsFrom, MayWantAt, MayTake, TakesFrom, Tells}
use Rattle.wasm_recorder.specs.Kept.{RunOf, run_of, StandsFrom, IsKept}

-- ---- how a machine stands

-- what is told of a machine is so of a run that doesn't wait
pub tells_after : (hosts : List HostName) (host : ℕ → Option HostName) (status : Status HostCall Trap) (st : Standing) → StandsSo hosts st status → waits status ≡ false → TellsStatus host (event_of st) status
tells_after hosts host status standing.Moving h goes = subst (TellsStatus host event.Moved) (sym h) tt
tells_after hosts host status (standing.Asking entry count) h goes = absurd (let e : true ≡ false = sym (ap waits h.1) ∙ goes in cc)
tells_after hosts host status standing.Loading h goes = absurd h
tells_after hosts host status standing.Returned h goes = subst (TellsStatus host event.Returned) (sym h) tt
tells_after hosts host status (standing.Trapped why) h goes = subst (TellsStatus host (event.Trapped why)) (sym h) refl
tells_after hosts host status (standing.Exited code) h goes = subst (TellsStatus host (event.Exited code)) (sym h) refl
tells_after hosts host status standing.Lost h goes = absurd h

abbrev pub is_end : Standing → Bool
is_end standing.Moving = false
is_end (standing.Asking entry count) = false
is_end _ = true

pub end_so : (st : Standing) → (st ≡ standing.Moving → ⊥) → ((entry count : ℕ) → st ≡ standing.Asking entry count → ⊥) → is_end st ≡ true
end_so standing.Moving a b = absurd (a refl)
end_so (standing.Asking entry count) a b = absurd (b entry count refl)
end_so standing.Loading a b = refl
end_so standing.Returned a b = refl
end_so (standing.Trapped why) a b = refl
end_so (standing.Exited code) a b = refl
end_so standing.Lost a b = refl

ended_told : (hosts : List HostName) (C : Course) (x : Recorded) (st : Standing) → StandsSo hosts st (status_at C x) → is_end st ≡ true → RunStepped C (event_of st) x x
ended_told hosts C x standing.Moving h end = absurd cc
ended_told hosts C x (standing.Asking entry count) h end = absurd cc
ended_told hosts C x standing.Loading h end = absurd h
ended_told hosts C x standing.Returned h end = told_again C event.Returned x refl (ap has_ended h) (subst (TellsStatus C.host event.Returned) (sym h) tt)
ended_told hosts C x (standing.Trapped why) h end = told_again C (event.Trapped why) x refl (ap has_ended h) (subst (TellsStatus C.host (event.Trapped why)) (sym h) refl)
ended_told hosts C x (standing.Exited code) h end = told_again C (event.Exited code) x refl (ap has_ended h) (subst (TellsStatus C.host (event.Exited code)) (sym h) refl)
ended_told hosts C x standing.Lost h end = absurd h

module _ {B K : Type 0} (D : Bares B K) where
  -- a run of what is run has made one step more, as is told
  abbrev pub AreTold : K → Event → Recorded → Recorded → Type 0
  AreTold k e x y = (o : D.Origin) → D.IsOf k o → IsAt (D.course k o) x × RunStepped (D.course k o) e x y

  -- what is told is so of the run, and what is kept of it is too
  pub record IsStepped (e : Event) (k : K) (x y : Recorded) (new : B) : Type 0 where
    pub kept : IsKept D new y
    pub told : AreTold k e x y

  -- a run doesn't wait for an answer, from some origin
  abbrev pub IsAnswered : RunOf K → Type 0
  IsAnswered v = (o : D.Origin) × D.IsOf v.of o × (v.run.lost ≡ false → is_waiting (D.course v.of o) v.run ≡ false)

  -- a run waits for an answer, from some origin, and this one fits
  abbrev pub IsAwaiting : Answer → RunOf K → Type 0
  IsAwaiting a v = (o : D.Origin) × D.IsOf v.of o × Awaits (D.course v.of o) v.run a

  -- what is so of the parts is so of what contracts see, and the other way round
  module _ (v : RunOf K) (b : B) (x : Recorded) (is : run_of D b x ≡ v) where
    pub told_of : (e : Event) (y : Recorded) → AreTold (D.key b) e x y → AreTold v.of e v.run y
    told_of e y told = subst (λ (w : RunOf K). AreTold w.of e w.run y) is told

    pub answered_of : IsAnswered v → IsAnswered (run_of D b x)
    answered_of h = subst IsAnswered (sym is) h

    pub awaiting_of : (a : Answer) → IsAwaiting a v → IsAwaiting a (run_of D b x)
    awaiting_of a h = subst (IsAwaiting a) (sym is) h

  -- it stands there from each origin of what is run, as before
  pub stands_now : (b new : B) (y : Recorded) → D.key new ≡ D.key b → ((o : D.Origin) → D.IsOf (D.key b) o → StandsFrom D (D.key b) o y new)
      → (o : D.Origin) → D.IsOf (D.key new) o → StandsFrom D (D.key new) o y new
  stands_now b new y key at o = let P : K → Type 0 = λ k. D.IsOf k o → StandsFrom D k o y new in subst P (sym key) (at o)

  pub origin_now : (b new : B) → D.key new ≡ D.key b → (o : D.Origin) × D.IsOf (D.key b) o → (o : D.Origin) × D.IsOf (D.key new) o
  origin_now b new key q = (q.0, subst (λ k. D.IsOf k q.0) (sym key) q.1)

  module _ (b : B) (x : Recorded) (h : IsKept D b x) (found : x.lost ≡ false) where
    pub somewhere : IsSomewhere D b
    somewhere = let q = h.origin in let at = h.stands found q.0 q.1 in (q.0, q.1, (x, at.0, at.1, h.bytes))

    pub wants_at : WantsFrom D b → (o : D.Origin) → D.IsOf (D.key b) o → MayWantAt D (D.key b) o x
    wants_at wants o of = wants o of (state_at (D.course (D.key b) o) x) (h.stands found o of).1

    pub stands_so : (st : Standing) → st ≡ D.standing b → Tells D b → (o : D.Origin) → D.IsOf (D.key b) o → StandsSo (D.hosts (D.key b)) st (status_at (D.course (D.key b) o) x)
    stands_so st is tells o of =
        subst (λ s. StandsSo (D.hosts (D.key b)) s (status_at (D.course (D.key b) o) x)) (sym is) (tells o of (state_at (D.course (D.key b) o) x) (h.stands found o of).1)

    -- an end is told again
    pub ended_stepped : (e : Event) (st : Standing) → st ≡ D.standing b → Tells D b → is_end st ≡ true → e ≡ event_of st → AreTold (D.key b) e x x
    ended_stepped e st is tells end told o of =
        let C = D.course (D.key b) o in
        ((h.stands found o of).0, subst (λ (f : Event). RunStepped C f x x) (sym told) (ended_told (D.hosts (D.key b)) C x st (stands_so st is tells o of) end))

  -- ---- a step of a moving run

  module _ (k : K) (o : D.Origin) (new : B) (x : Recorded) (count : ℕ) where
    abbrev C : Course
    C = D.course k o

    abbrev y : Recorded
    y = record x { steps = x.steps + count }

    -- it stands where a step led that is told so
    abbrev Stepped : Event → Type 0
    Stepped e = StandsFrom D k o y new × RunStepped C e x y

    module _ (at : IsAt C x) (moving : status_at C x ≡ Moving) where
      made : (e : Event) → steps_told e ≡ 1 → count ≡ steps_told e → Makes D k o e (state_at C x) new → Stepped e
      made e one told step =
          let s = moved C e x (x.steps + count) step.1.0 at moving (let n : count ≡ 1 = told ∙ one in omega arith) one step.0 step.1.1 step.1.2 in
          ((s.stands, subst (D.IsState new k o) (sym s.reaches) step.1.3), s.stepped)

      none_made : count ≡ 0 → y ≡ x
      none_made none = λ i. record x { steps = let n : x.steps + count ≡ x.steps = omega arith in n i }

      -- no step was made, and it stands where it stood
      stayed : (e : Event) → count ≡ 0 → D.IsState new k o (state_at C x) → RunStepped C e x x → Stepped e
      stayed e none state stepped = subst (λ (z : Recorded). StandsFrom D k o z new × RunStepped C e x z) (sym (none_made none)) ((at, state), stepped)

      stepped_at : (e : Event) → count ≡ steps_told e → Steps D k o e (state_at C x) new → Stepped e
      stepped_at event.Moved told step = made event.Moved refl told step
      stepped_at (event.Waits asked) told step = made (event.Waits asked) refl told step
      stepped_at (event.Loader which first second) told step = made (event.Loader which first second) refl told step
      stepped_at (event.Marked tag) told step = made (event.Marked tag) refl told step
      stepped_at event.Returned told step = made event.Returned refl told step
      stepped_at (event.Trapped why) told step = made (event.Trapped why) refl told step
      stepped_at (event.Exited code) told step = made (event.Exited code) refl told step
      stepped_at event.Deep told step = stayed event.Deep told step.1 (moving, step.0, refl)

  module _ (b : B) (x : Recorded) (h : IsKept D b x) (found : x.lost ≡ false) (st : Standing) (is : st ≡ D.standing b) (tells : Tells D b) where
    pub bare_stepped : st ≡ standing.Moving → (e : Event) (new : B) (count : ℕ) → StepsFrom D e b new → D.IsSound new → D.IsWhole new → D.key new ≡ D.key b → count ≡ steps_told e
        → IsStepped e (D.key b) x (record x { steps = x.steps + count }) new
    bare_stepped moving e new count steps sound whole key counted =
        let k = D.key b in
        let y : Recorded = record x { steps = x.steps + count } in
        let at : (o : D.Origin) → D.IsOf k o → StandsFrom D k o y new × RunStepped (D.course k o) e x y = λ o of.
        let from = h.stands found o of in
        let status : status_at (D.course k o) x ≡ Moving = stands_so b x h found standing.Moving (sym moving ∙ is) tells o of in
        stepped_at k o new x count from.0 status e counted (steps o of (state_at (D.course k o) x) from.1) in
        record {
          kept = record { whole = whole; bytes = h.bytes; origin = origin_now b new key h.origin; sound = λ _. sound; stands = λ _. stands_now b new y key (λ o of. (at o of).0) };
          told = λ o of. ((h.stands found o of).0, (at o of).1);
        }

    -- ---- the answer that is recorded

    module _ (entry count : ℕ) (asks : st ≡ standing.Asking entry count) (items : List Answer) (same : items ≡ x.answers)
        (answered : (o : D.Origin) × D.IsOf (D.key b) o × (x.lost ≡ false → is_waiting (D.course (D.key b) o) x ≡ false)) where
      -- the call that is waited for
      asked_call : (o : D.Origin) → D.IsOf (D.key b) o → (call : HostCall) × (status_at (D.course (D.key b) o) x ≡ Waits call)
      asked_call o of = let q = stands_so b x h found (standing.Asking entry count) (sym asks ∙ is) tells o of in (q.0, q.1)

      answer_is_there : x.answered ≡ true
      answer_is_there =
          let call = asked_call answered.0 answered.1 in
          answered_wait x.answered (status_at (D.course (D.key b) answered.0) x) call.0 call.1 (answered.2 found)

      takes_next : (o : D.Origin) (of : D.IsOf (D.key b) o) → TakesLast (D.course (D.key b) o) x (asked_call o of).0
      takes_next o of = at_taken (D.course (D.key b) o) x (h.stands found o of).0 (asked_call o of).0 answer_is_there (asked_call o of).1

      -- the last answer is there
      pub last_found : None ≡ slice_get items (length items - 1) → ⊥
      last_found e =
          let w = takes_next answered.0 answered.1 in
          let clash : None ≡ Some w.answer = sym (read_last None items x.answers same e) ∙ w.last in
          cc

      module _ (a : Answer) (read : Some a ≡ slice_get items (length items - 1)) where
        taken_last : (o : D.Origin) (of : D.IsOf (D.key b) o) → (takes_next o of).answer ≡ a
        taken_last o of = let w = takes_next o of in same_Some w.answer a (sym w.last ∙ read_last (Some a) items x.answers same read)

        -- and may be taken
        pub last_taken : MayTake D b a
        last_taken =
            let o = answered.0 in
            let of = answered.1 in
            let C = D.course (D.key b) o in
            let w = takes_next o of in
            let fits : IsTrue (answer_fits (asked_call o of).0 (memory_at C x) a) = subst (λ (c : Answer). IsTrue (answer_fits (asked_call o of).0 (memory_at C x) c)) (taken_last o of) w.fits in
            (o, of, (state_at C x, (h.stands found o of).1, subst (λ status. FitsWait a status (memory_at C x)) (sym (asked_call o of).1) fits))

        pub taken_stepped : (e : Event) (new : B) (now : Standing) → TakesFrom D a b new → D.IsSound new → D.IsWhole new → D.key new ≡ D.key b → now ≡ D.standing new → Tells D new → e ≡ event_of now
            → IsStepped e (D.key b) x (record x { steps = x.steps + 1; answered = false }) new
        taken_stepped e new now takes sound whole key is_now tells_now told =
            let k = D.key b in
            let y : Recorded = record x { steps = x.steps + 1; answered = false } in
            let so : (o : D.Origin) → D.IsOf k o → StandsFrom D k o y new × RunStepped (D.course k o) e x y = λ o of.
            let C = D.course k o in
            let s = state_at C x in
            let t = C.system.take a s in
            let w = takes o of s (h.stands found o of).1 in
            let Q : K → Type 0 = λ j. (o' : D.Origin) → D.IsOf j o' → (s' : (D.course j o').system.State) → D.IsState new j o' s' → StandsSo (D.hosts j) now ((D.course j o').system.status s') in
            let tells_new : Q (D.key new) = λ o' of' s' at'. subst (λ n. StandsSo (D.hosts (D.key new)) n ((D.course (D.key new) o').system.status s')) (sym is_now) (tells_now o' of' s' at') in
            let stands : StandsSo (D.hosts k) now (C.system.status t) = subst Q key tells_new o of t w.0 in
            let made = took C (event_of now) x (x.steps + 1) (asked_call o of).0 a (takes_next o of) (taken_last o of) (asked_call o of).1 (omega arith) (one_told now)
            (tells_after (D.hosts k) C.host (C.system.status t) now stands w.1) in
            ((made.stands, subst (D.IsState new k o) (sym made.reaches) w.0), subst (λ (f : Event). RunStepped C f x y) (sym told) made.stepped) in
            record {
              kept = record { whole = whole; bytes = h.bytes; origin = origin_now b new key h.origin; sound = λ _. sound; stands = λ _. stands_now b new y key (λ o of. (so o of).0) };
              told = λ o of. ((h.stands found o of).0, (so o of).1);
            }
