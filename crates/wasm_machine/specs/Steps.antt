-- What is told of the steps of a run, over its course and what is recorded of it.
-- Serves the contracts of this crate, which follow Recorded of `spec_runtime`.
use Rattle.std.specs.Prelude.{◌≡◌, ◌≤◌, ◌<◌, ◌⊎◌, ◌^◌, ℕ, Option, Some, Bool, true, false, IsTrue, IfSome}
use Rattle.std.specs.List.{All}
use Rattle.wasm_form.specs.declared.runtime.Trap.{Trap}
use Rattle.wasm_form.specs.declared.runtime.Answer.{Answer}
use Rattle.spec_safety.specs.spec_runs.Systems.{Status, Moving, Waits, Returned, Exited, Trapped}
use Rattle.spec_safety.specs.spec_runtime.Names.{HostName, has_integers}
use Rattle.spec_safety.specs.spec_runtime.Hosts.{HostCall, numbers_fit}
use Rattle.spec_safety.specs.spec_runtime.Recorded.{Recorded, has_ended, waits, FitsWait}
use Rattle.wasm_machine.specs.declared.machine.Standing.{Standing}
use Rattle.wasm_machine.specs.declared.machine.Standing.TheVariants as standing
use Rattle.wasm_machine.specs.declared.event.Event.{Event}
use Rattle.wasm_machine.specs.declared.event.Event.TheVariants as event
use Rattle.spec_safety.specs.spec_runtime.Courses.{Course, with_step, after, state_at, status_at, memory_at, IsAt}

-- ---- what is told

-- what is told of a step, by how the run stands after it; host functions have names by their entries
abbrev pub TellsStatus : (ℕ → Option HostName) → Event → Status HostCall Trap → Type 0
TellsStatus host event.Moved Moving = Unit {0}
TellsStatus host (event.Waits asked) (Waits call) = (host asked.entry ≡ Some call.host) × (asked.args ≡ call.args)
TellsStatus host event.Returned Returned = Unit {0}
TellsStatus host (event.Trapped why) (Trapped cause) = why ≡ cause
TellsStatus host (event.Exited code) (Exited value) = code ≡ value
TellsStatus host _ _ = ⊥

-- what is told of a machine after an answer, and of an end again
abbrev pub event_of : Standing → Event
event_of standing.Returned = event.Returned
event_of (standing.Trapped why) = event.Trapped why
event_of (standing.Exited code) = event.Exited code
event_of _ = event.Moved

-- How a run stands that was asked for a step, by what is told of it: one whose step would be too deep goes on.
abbrev pub stands_told : Event → Event
stands_told event.Deep = event.Moved
stands_told e = e

-- a host function is asked
abbrev pub is_wait : Event → Bool
is_wait (event.Waits asked) = true
is_wait _ = false

-- how many steps were made where this is told of a run that goes on by itself
abbrev pub steps_told : Event → ℕ
steps_told event.Deep = 0
steps_told _ = 1

-- what is asked are numbers of 64 bits
abbrev pub AreNumbers : Event → Type 0
AreNumbers (event.Waits asked) = All (λ n. n < 2 ^ 64) asked.args
AreNumbers _ = Unit {0}

-- what is asked of a host function whose parameters and results are integers fits its parameters
abbrev pub ArgumentsFit : (ℕ → Option HostName) → Event → Type 0
ArgumentsFit host (event.Waits asked) = IfSome (host asked.entry) (λ h. IsTrue (has_integers h.ty) → IsTrue (numbers_fit h.ty.params asked.args))
ArgumentsFit host _ = Unit {0}

-- ---- one step

-- one step more was made, and is told by how the run stands then
abbrev pub StepMade : Course → Event → Recorded → Recorded → Type 0
StepMade C e old new = (has_ended (status_at C old) ≡ false) × (new ≡ with_step old) × IsAt C new × TellsStatus C.host e (status_at C new)

-- What is told of a call for a step: the step was made; an end is told again; or the step would be too deep, and nothing has changed.
abbrev pub RunStepped : Course → Event → Recorded → Recorded → Type 0
RunStepped C event.Deep old new = (status_at C old ≡ Moving) × (C.deep (state_at C old) ≡ true) × (new ≡ old)
RunStepped C e old new =
    StepMade C e old new × (status_at C old ≡ Moving → C.deep (state_at C old) ≡ false)
    ⊎ (has_ended (status_at C old) ≡ true) × TellsStatus C.host e (status_at C old) × (new ≡ old)

-- ---- further steps of code

-- Further steps were made, up to a number of steps in all, and none of them took an answer.
pub record Advances (most : ℕ) (old new : Recorded) : Type 0 where
  pub same : new ≡ record old { steps = new.steps; lost = new.lost }
  pub more : old.steps ≤ new.steps
  pub few : (new.steps ≡ old.steps) ⊎ (new.steps ≤ most)

-- None of the further steps was too deep, and none of them calls a host function.
pub record AreOfCode (C : Course) (old new : Recorded) : Type 0 where
  pub free : (k : ℕ) → old.steps ≤ k → k < new.steps
      → (C.system.status (after C k old.answers).state ≡ Moving) × (C.deep (after C k old.answers).state ≡ false)
  pub unasked : old.steps < new.steps → waits (status_at C new) ≡ false

-- ---- answers

-- memory wasn't wanting, the run waits for an answer that isn't recorded, and this one fits
abbrev pub Awaits : Course → Recorded → Answer → Type 0
Awaits C x a = (x.answered ≡ false) × (x.lost ≡ false) × FitsWait a (status_at C x) (memory_at C x)
