-- What is told of a step of a run.
use Rattle.std.proofs.Common.{◌≡◌, ℕ, true, false, true≢false, Option, None, ◌⊎◌, inl, inr, refl, sym, ◌∙◌}
use Rattle.spec_traces.specs.spec_hosts.wasm_form.declared.runtime.Trap.{Trap}
use Rattle.spec_traces.specs.spec_hosts.wasm_form.declared.runtime.Asked.{Asked}
use Rattle.spec_traces.specs.spec_hosts.spec_runs.Systems.{Status, Moving, Waits, Returned, Exited, Trapped}
use Rattle.spec_traces.specs.spec_hosts.spec_runtime.Names.{HostName}
use Rattle.spec_traces.specs.spec_hosts.spec_runtime.Hosts.{HostCall}
use Rattle.spec_traces.specs.spec_hosts.spec_runtime.Recorded.{Recorded, has_ended, waits}
use Rattle.spec_traces.specs.spec_hosts.spec_runtime.Courses.{Course, state_at, status_at}
use Rattle.wasm_machine.specs.declared.event.Event.{Event}
use Rattle.wasm_machine.specs.declared.event.Event.TheVariants as event
use Rattle.wasm_machine.specs.Steps.{TellsStatus, StepMade, RunStepped}
use Rattle.wasm_machine.proofs.Steps as steps
use Rattle.run_loaded.specs.Events.{asked_by}
use Rattle.replay_check.specs.Following.{IsAskedOf, is_deep}
use Rattle.replay_check.specs.Recording.{IsCalled}

-- ---- how the run stands

module _ (host : ℕ → Option HostName) where
  -- a run doesn't wait where no host call is told
  pub told_still : (e : Event) (status : Status HostCall Trap) → asked_by e ≡ None → TellsStatus host e status → waits status ≡ false
  told_still (event.Waits asked) status none tells = absurd cc
  told_still event.Moved status none tells = steps.not_waiting host event.Moved status (λ call t. t) tells
  told_still (event.Loader which first second) status none tells = steps.not_waiting host (event.Loader which first second) status (λ call t. t) tells
  told_still (event.Marked tag) status none tells = steps.not_waiting host (event.Marked tag) status (λ call t. t) tells
  told_still event.Returned status none tells = steps.not_waiting host event.Returned status (λ call t. t) tells
  told_still (event.Trapped why) status none tells = steps.not_waiting host (event.Trapped why) status (λ call t. t) tells
  told_still (event.Exited code) status none tells = steps.not_waiting host (event.Exited code) status (λ call t. t) tells
  told_still event.Deep status none tells = steps.not_waiting host event.Deep status (λ call t. t) tells

  pub waits_for : (asked : Asked) (status : Status HostCall Trap) → TellsStatus host (event.Waits asked) status → IsCalled host status asked
  waits_for asked (Waits call) tells = record { call = call; waits = refl; there = tells.0; args = tells.1 }
  waits_for asked Moving tells = absurd tells
  waits_for asked Returned tells = absurd tells
  waits_for asked (Exited code) tells = absurd tells
  waits_for asked (Trapped why) tells = absurd tells

  -- what is asked is what it waits for
  pub asked_so : (e : Event) (status : Status HostCall Trap) → TellsStatus host e status → IsAskedOf host status (asked_by e)
  asked_so (event.Waits asked) status tells = tells
  asked_so event.Moved status tells = told_still event.Moved status refl tells
  asked_so (event.Loader which first second) status tells = told_still (event.Loader which first second) status refl tells
  asked_so (event.Marked tag) status tells = told_still (event.Marked tag) status refl tells
  asked_so event.Returned status tells = told_still event.Returned status refl tells
  asked_so (event.Trapped why) status tells = told_still (event.Trapped why) status refl tells
  asked_so (event.Exited code) status tells = told_still (event.Exited code) status refl tells
  asked_so event.Deep status tells = told_still event.Deep status refl tells

-- ---- a step

-- a run that neither waits nor has ended goes on
pub moving_so : (status : Status HostCall Trap) → has_ended status ≡ false → waits status ≡ false → status ≡ Moving
moving_so Moving live still = refl
moving_so (Waits call) live still = absurd (true≢false still)
moving_so Returned live still = absurd (true≢false live)
moving_so (Exited code) live still = absurd (true≢false live)
moving_so (Trapped why) live still = absurd (true≢false live)

module _ (C : Course) (old new : Recorded) where
  -- a step was made and is told, or an end is told again
  abbrev IsTold : Event → Type 0
  IsTold e = StepMade C e old new × (status_at C old ≡ Moving → C.deep (state_at C old) ≡ false)
      ⊎ (has_ended (status_at C old) ≡ true) × TellsStatus C.host e (status_at C old) × (new ≡ old)

  told_so : (e : Event) → is_deep e ≡ false → RunStepped C e old new → IsTold e
  told_so event.Deep flat h = absurd (true≢false flat)
  told_so event.Moved flat h = h
  told_so (event.Waits asked) flat h = h
  told_so (event.Loader call first second) flat h = h
  told_so (event.Marked tag) flat h = h
  told_so event.Returned flat h = h
  told_so (event.Trapped why) flat h = h
  told_so (event.Exited code) flat h = h

  -- it was made, where the run hadn't ended
  pub step_told : (e : Event) → has_ended (status_at C old) ≡ false → is_deep e ≡ false → RunStepped C e old new → StepMade C e old new × (status_at C old ≡ Moving → C.deep (state_at C old) ≡ false)
  step_told e live flat h = elim (told_so e flat h) [ inl made ↦ made | inr again ↦ absurd (true≢false (sym again.0 ∙ live)) ]

  -- or was too deep
  pub deep_told : (e : Event) → is_deep e ≡ true → RunStepped C e old new → (status_at C old ≡ Moving) × (C.deep (state_at C old) ≡ true) × (new ≡ old)
  deep_told event.Deep deep h = h
  deep_told event.Moved deep h = absurd (true≢false (sym deep))
  deep_told (event.Waits asked) deep h = absurd (true≢false (sym deep))
  deep_told (event.Loader call first second) deep h = absurd (true≢false (sym deep))
  deep_told (event.Marked tag) deep h = absurd (true≢false (sym deep))
  deep_told event.Returned deep h = absurd (true≢false (sym deep))
  deep_told (event.Trapped why) deep h = absurd (true≢false (sym deep))
  deep_told (event.Exited code) deep h = absurd (true≢false (sym deep))
