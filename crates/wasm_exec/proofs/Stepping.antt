-- What comes of a step, by what is told of it.
use Rattle.std.proofs.Common.{◌≡◌, ℕ, suc, ◌<◌, ◌≤◌, true, false, true≢false, List, [], ◌++◌, append-nil, Option, Some, None, ◌⊎◌, inl, inr, IfSome, IsTrue, refl, sym, ap, ◌∙◌, subst, le_refl, arith}
use Rattle.spec_hosts.specs.wasm_form.declared.runtime.LoaderCall.{LoaderCall}
use Rattle.spec_hosts.specs.wasm_form.declared.runtime.Trap.{Trap}
use Rattle.spec_hosts.specs.wasm_form.declared.runtime.Answer.{Answer}
use Rattle.spec_hosts.specs.wasm_form.declared.runtime.Asked.{Asked}
use Rattle.spec_hosts.specs.spec_runs.Systems.{Status, Moving, Waits, Returned, Exited, Trapped, event_at}
use Rattle.spec_hosts.specs.spec_runtime.Memories.{MemoryInstance}
use Rattle.spec_hosts.specs.spec_runtime.Names.{HostName, HostNames, has_integers}
use Rattle.spec_hosts.specs.spec_runtime.Hosts.{HostCall, numbers_fit}
use Rattle.spec_hosts.specs.spec_runtime.Recorded.{Recorded, has_ended, waits}
use Rattle.spec_hosts.specs.Ends.{taken_of, is_due, EndsAs}
use Rattle.spec_hosts.specs.declared.ran.RunEnd.{RunEnd}
use Rattle.spec_hosts.specs.declared.ran.RunEnd.TheVariants as end
use Rattle.wasm_machine.specs.declared.event.Event.{Event}
use Rattle.wasm_machine.specs.declared.event.Event.TheVariants as event
use Rattle.spec_hosts.specs.spec_runtime.Courses.{Course, after, reached, status_at, memory_at, IsAt}
use Rattle.wasm_machine.specs.Steps.{TellsStatus, StepMade, RunStepped, ArgumentsFit}
use Rattle.run_loaded.specs.Events.{end_by, asked_by}
use Rattle.wasm_exec.specs.Driving.{Progress, AreDeclared, IsAskedOf, IsFree, IsRunning, IsReady, HasEnded, Grows, StepGives}
use Rattle.run_loaded.proofs.Growth.{events_last}
use Rattle.wasm_exec.proofs.Limits.{not_due, free_to}

-- ---- how the run stands that was told of

module _ (host : ℕ → Option HostName) where
  goes_on : (status : Status HostCall Trap) → TellsStatus host event.Moved status → (has_ended status ≡ false) × IsAskedOf host status None
  goes_on Moving tells = (refl, tt)
  goes_on (Waits call) tells = absurd tells
  goes_on Returned tells = absurd tells
  goes_on (Exited code) tells = absurd tells
  goes_on (Trapped why) tells = absurd tells

  asked_fits : (asked : Asked) (call : HostCall) → TellsStatus host (event.Waits asked) (Waits call) → ArgumentsFit host (event.Waits asked) → IsTrue (has_integers call.host.ty) → IsAskedOf host (Waits call) (Some asked)
  asked_fits asked call tells fits integers =
      let fit = subst (λ (h : Option HostName). IfSome h (λ h. IsTrue (has_integers h.ty) → IsTrue (numbers_fit h.ty.params asked.args))) tells.0 fits in
      (tells.0, tells.1, subst (λ args. IsTrue (numbers_fit call.host.ty.params args)) tells.1 (fit integers))

  waits_for : (names : HostNames) (asked : Asked) (status : Status HostCall Trap) → AreDeclared host names → ArgumentsFit host (event.Waits asked) → TellsStatus host (event.Waits asked) status
      → (has_ended status ≡ false) × IsAskedOf host status (Some asked)
  waits_for names asked Moving declared fits tells = absurd tells
  waits_for names asked (Waits call) declared fits tells = (refl, asked_fits asked call tells fits (declared asked.entry call.host tells.0).1)
  waits_for names asked Returned declared fits tells = absurd tells
  waits_for names asked (Exited code) declared fits tells = absurd tells
  waits_for names asked (Trapped why) declared fits tells = absurd tells

  returned : (status : Status HostCall Trap) → TellsStatus host event.Returned status → status ≡ Returned
  returned Returned tells = refl
  returned Moving tells = absurd tells
  returned (Waits call) tells = absurd tells
  returned (Exited code) tells = absurd tells
  returned (Trapped why) tells = absurd tells

  trapped : (why : Trap) (status : Status HostCall Trap) → TellsStatus host (event.Trapped why) status → status ≡ Trapped why
  trapped why (Trapped cause) tells = ap Trapped (sym tells)
  trapped why Moving tells = absurd tells
  trapped why (Waits call) tells = absurd tells
  trapped why Returned tells = absurd tells
  trapped why (Exited code) tells = absurd tells

  exited : (code : ℕ) (status : Status HostCall Trap) → TellsStatus host (event.Exited code) status → status ≡ Exited code
  exited code (Exited value) tells = ap Exited (sym tells)
  exited code Moving tells = absurd tells
  exited code (Waits call) tells = absurd tells
  exited code Returned tells = absurd tells
  exited code (Trapped why) tells = absurd tells

pub no_event : (status : Status HostCall Trap) (memory : MemoryInstance) → waits status ≡ false → event_at status memory ≡ []
no_event (Waits call) memory still = absurd (true≢false still)
no_event Moving memory still = refl
no_event Returned memory still = refl
no_event (Exited code) memory still = refl
no_event (Trapped why) memory still = refl

pub ended_still : (status : Status HostCall Trap) → has_ended status ≡ true → waits status ≡ false
ended_still (Waits call) ended = absurd (true≢false (sym ended))
ended_still Moving ended = refl
ended_still Returned ended = refl
ended_still (Exited code) ended = refl
ended_still (Trapped why) ended = refl

-- ---- the step

-- a step was made and is told, or an end is told again
abbrev IsTold : Course → Event → Recorded → Recorded → Type 0
IsTold C e old new =
    StepMade C e old new × (status_at C old ≡ Moving → C.deep (reached C old).state ≡ false)
    ⊎ (has_ended (status_at C old) ≡ true) × TellsStatus C.host e (status_at C old) × (new ≡ old)

-- a call of the loader and a mark are never told
no_loader : (C : Course) (call : LoaderCall) (first second : ℕ) (old new : Recorded) → IsTold C (event.Loader call first second) old new → ⊥
no_loader C call first second old new (inl x) = x.0.3
no_loader C call first second old new (inr y) = y.1

no_mark : (C : Course) (tag : ℕ) (old new : Recorded) → IsTold C (event.Marked tag) old new → ⊥
no_mark C tag old new (inl x) = x.0.3
no_mark C tag old new (inr y) = y.1

module _ (C : Course) (names : HostNames) (p : Progress) (ready : IsReady C names p) where
  abbrev old : Recorded
  old = p.run

  abbrev next : Recorded
  next = record p.run { steps = suc p.run.steps; answered = false }

  abbrev Ends : RunEnd → Recorded → Type 0
  Ends end x = (most : ℕ) → old.steps < most → HasEnded C most end x

  step_free : (status_at C old ≡ Moving → C.deep (reached C old).state ≡ false) → IsFree C (suc old.steps) old.answers
  step_free flat = free_to C old.answers old.steps (suc old.steps) ready.free here
    where
      here : (k : ℕ) → old.steps ≤ k → k < suc old.steps → is_due C.system C.deep (after C k old.answers).state (taken_of old.answers (after C k old.answers).left) ≡ false
      here k above below =
          let e : old.steps ≡ k = omega arith in
          subst (λ j. is_due C.system C.deep (after C j old.answers).state (taken_of old.answers (after C j old.answers).left) ≡ false) e
          (not_due C (reached C old).state (taken_of old.answers (reached C old).left) flat ready.within)

  grows_next : IsAt C next → Grows C old next
  grows_next stands = record { answers = refl; events = events_last C.system old.steps C.opening old.answers stands.real }

  grows_same : waits (status_at C old) ≡ false → Grows C old old
  grows_same still =
      let none = no_event (status_at C old) (memory_at C old) still in
      record { answers = refl; events = sym (ap (λ l. (reached C old).events ++ l) none ∙ append-nil (reached C old).events) }

  abbrev progress : Recorded → Option Asked → Progress
  progress x a = record p { run = x; asked = a }

  running_next : (a : Option Asked) → IsAt C next → (status_at C old ≡ Moving → C.deep (reached C old).state ≡ false) → IsAskedOf C.host (status_at C next) a → IsRunning C names (progress next a)
  running_next a stands flat asks = record {
    declared = ready.declared;
    stands = stands;
    taken = refl;
    asks = asks;
    free = step_free flat;
    written = ready.written;
  }

  -- the run goes on
  goes : (e : Event) (a : Option Asked) (new : Recorded) → ((status : Status HostCall Trap) → TellsStatus C.host e status → (has_ended status ≡ false) × IsAskedOf C.host status a)
      → IsTold C e old new → IsRunning C names (progress new a) × Grows C old new
  goes e a new holds (inl x) =
      let stands : IsAt C next = subst (IsAt C) x.0.1 x.0.2 in
      let tells = subst (λ y. TellsStatus C.host e (status_at C y)) x.0.1 x.0.3 in
      subst (λ y. IsRunning C names (progress y a) × Grows C old y) (sym x.0.1) (running_next a stands x.1 (holds (status_at C next) tells).1, grows_next stands)
  goes e a new holds (inr y) =
      let live = (holds (status_at C old) y.1).0 in
      absurd (true≢false (sym y.0 ∙ live))

  made_ends : (end : RunEnd) → IsAt C next → (status_at C old ≡ Moving → C.deep (reached C old).state ≡ false)
      → ((most : ℕ) → EndsAs C.system C.deep most (suc old.steps) (reached C next).state (taken_of old.answers (reached C next).left) end) → Ends end next
  made_ends end stands flat ends most lt = record { made = record { few = omega arith; real = stands.real; free = step_free flat }; ends = ends most }

  again_ends : (end : RunEnd) (most : ℕ) → old.steps ≤ most → EndsAs C.system C.deep most old.steps (reached C old).state (taken_of old.answers (reached C old).left) end → HasEnded C most end old
  again_ends end most le ends = record { made = record { few = le; real = ready.stands.real; free = ready.free }; ends = ends }

  -- what is told of a state that has ended so
  abbrev EndsWhere : Event → RunEnd → Type 0
  EndsWhere e end = (s : C.system.State) (taken : List Answer) (most steps : ℕ) → TellsStatus C.host e (C.system.status s) → EndsAs C.system C.deep most steps s taken end

  -- the run has ended by itself
  comes : (e : Event) (end : RunEnd) (new : Recorded) → EndsWhere e end → IsTold C e old new → Ends end new × Grows C old new
  comes e end new holds (inl x) =
      let stands : IsAt C next = subst (IsAt C) x.0.1 x.0.2 in
      let tells = subst (λ y. TellsStatus C.host e (status_at C y)) x.0.1 x.0.3 in
      subst (λ y. Ends end y × Grows C old y) (sym x.0.1)
      (made_ends end stands x.1 (λ most. holds (reached C next).state (taken_of old.answers (reached C next).left) most (suc old.steps) tells), grows_next stands)
  comes e end new holds (inr y) =
      subst (λ x. Ends end x × Grows C old x) (sym y.2)
      (λ most lt. again_ends end most (omega arith) (holds (reached C old).state (taken_of old.answers (reached C old).left) most old.steps y.1), grows_same (ended_still (status_at C old) y.0))

  -- no step was made, and this is why
  stays : (end : RunEnd) (new : Recorded) → status_at C old ≡ Moving → new ≡ old
      → ((most : ℕ) → old.steps < most → EndsAs C.system C.deep most old.steps (reached C old).state (taken_of old.answers (reached C old).left) end)
      → Ends end new × Grows C old new
  stays end new moving same ends =
      subst (λ x. Ends end x × Grows C old x) (sym same)
      (λ most lt. again_ends end most (omega arith) (ends most lt), grows_same (ap waits moving))

  -- what comes of a step that is told
  pub step_gives : (e : Event) (new : Recorded) → ArgumentsFit C.host e → RunStepped C e old new → StepGives C names (end_by e) p (progress new (asked_by e))
  step_gives event.Moved new fits h = goes event.Moved None new (goes_on C.host) h
  step_gives (event.Waits asked) new fits h = goes (event.Waits asked) (Some asked) new (λ status tells. waits_for C.host names asked status ready.declared fits tells) h
  step_gives event.Returned new fits h = comes event.Returned end.Return new (λ s taken most steps tells. returned C.host (C.system.status s) tells) h
  step_gives (event.Trapped why) new fits h = comes (event.Trapped why) (end.Trap why) new (λ s taken most steps tells. trapped C.host why (C.system.status s) tells) h
  step_gives (event.Exited code) new fits h = comes (event.Exited code) (end.Exit code) new (λ s taken most steps tells. exited C.host code (C.system.status s) tells) h
  step_gives event.Deep new fits h = stays end.DepthLimit new h.0 h.2 (λ most lt. (lt, h.0, h.1))
  step_gives (event.Loader call first second) new fits h = absurd (no_loader C call first second old new h)
  step_gives (event.Marked tag) new fits h = absurd (no_mark C tag old new h)

  -- an end that is told again
  again : (e : Event) (end : RunEnd) (new : Recorded) → EndsWhere e end → has_ended (status_at C old) ≡ true → IsTold C e old new → HasEnded C old.steps end old × (new ≡ old)
  again e end new holds ended (inl x) = absurd (true≢false (sym ended ∙ x.0.0))
  again e end new holds ended (inr y) = (again_ends end old.steps (le_refl old.steps) (holds (reached C old).state (taken_of old.answers (reached C old).left) old.steps old.steps y.1), y.2)

  again_at : (e : Event) (new : Recorded) → has_ended (status_at C old) ≡ true → RunStepped C e old new → IfSome (end_by e) (λ end. HasEnded C old.steps end old × (new ≡ old))
  again_at event.Moved new ended h = tt
  again_at (event.Waits asked) new ended h = tt
  again_at (event.Loader call first second) new ended h = tt
  again_at (event.Marked tag) new ended h = tt
  again_at event.Returned new ended h = again event.Returned end.Return new (λ s taken most steps tells. returned C.host (C.system.status s) tells) ended h
  again_at (event.Trapped why) new ended h = again (event.Trapped why) (end.Trap why) new (λ s taken most steps tells. trapped C.host why (C.system.status s) tells) ended h
  again_at (event.Exited code) new ended h = again (event.Exited code) (end.Exit code) new (λ s taken most steps tells. exited C.host code (C.system.status s) tells) ended h
  again_at event.Deep new ended h = absurd (true≢false (sym ended ∙ ap has_ended h.0))

  -- how a run has ended that is asked for a step more, which changes nothing
  pub ended_again : (e : Event) (new : Recorded) (end : RunEnd) → end_by e ≡ Some end → has_ended (status_at C old) ≡ true → RunStepped C e old new → HasEnded C old.steps end old × (new ≡ old)
  ended_again e new end is ended stepped =
      subst (λ (o : Option RunEnd). IfSome o (λ end. HasEnded C old.steps end old × (new ≡ old))) is (again_at e new ended stepped)
