-- The steps of a turn.
-- Serves the contracts of this crate, which follow Turns of `spec_boards`.
use Rattle.std.specs.Prelude.{◌≡◌, ◌≤◌, ◌<◌, ◌-◌, ◌⊎◌, ℕ, min, nat_eq, Bool, true, false, Option, Some, None, if◌then◌else◌}
use Rattle.spec_loading.specs.spec_runtime.Recorded.{Recorded}
use Rattle.spec_loading.specs.spec_runtime.Courses.{Course, reached, status_at, memory_at}
use Rattle.spec_boards.specs.declared.turn.Stop.{Stop}
use Rattle.spec_boards.specs.declared.turn.Stop.TheVariants as stop
use Rattle.spec_boards.specs.Turns.{Turned, stop_by, stop_at, turned}
use Rattle.wasm_machine.specs.declared.event.Event.{Event}
use Rattle.wasm_machine.specs.declared.event.Event.TheVariants as event
use Rattle.dyl_store.specs.Stores.{StoreRun, set_course, MayWantAt}
use Rattle.slice_board.specs.Taken.{place_of}

-- the first cause to stop of those that are seen before a step
abbrev pub first_stop : Bool → Bool → Bool → Bool → Option Stop
first_stop ended limited waits spent =
    if ended then Some stop.Ended else if limited then Some stop.StepLimit else if waits then Some stop.Waits else if spent then Some stop.Spent else None

-- the cause to stop before the next step of a run that may make so many steps, and comes to so many in this turn, unless that step is too deep
abbrev pub stop_seen : Course → ℕ → ℕ → Recorded → Option Stop
stop_seen C most until x = stop_by (nat_eq x.steps most) (nat_eq x.steps until) false (reached C x).left (memory_at C x) (status_at C x)

abbrev pub deep_stop : Event → Option Stop
deep_stop event.Deep = Some stop.Deep
deep_stop _ = None

-- what is left of a turn that began after so many steps and is spent after so many, from where the run has come
abbrev pub turn_left : Course → ℕ → ℕ → ℕ → Recorded → Turned
turn_left C most start end x = turned C most (end - x.steps) (place_of x) (x.steps - start)

-- Some steps of a turn were made, which then goes on from there: a turn that comes to so many steps at most, which are the lesser of the limit and
-- of the number after which it is spent.
pub record GoesAlong (most until : ℕ) (old new : StoreRun) : Type 0 where
  pub answers : new.run.answers ≡ old.run.answers
  pub more : old.run.steps ≤ new.run.steps
  pub few : new.run.steps ≤ until
  pub same : (start end : ℕ) → start ≤ old.run.steps → until ≡ min most end
      → turn_left (set_course old.linked) most start end new.run ≡ turn_left (set_course old.linked) most start end old.run

-- a cause to stop is due, or a step more was made
abbrev pub StopsOrGoes : ℕ → ℕ → Option Stop → StoreRun → StoreRun → Type 0
StopsOrGoes most until (Some why) old new =
    (end : ℕ) → until ≡ min most end → stop_at (set_course old.linked) most (end - new.run.steps) (place_of new.run) ≡ Some why
StopsOrGoes most until None old new = old.run.steps < new.run.steps

-- memory wasn't wanting
pub record GoesOn (most until : ℕ) (why : Option Stop) (old new : StoreRun) : Type 0 where
  pub found : old.run.lost ≡ false
  pub still : new.run.lost ≡ false
  pub along : GoesAlong most until old new
  pub stops : StopsOrGoes most until why old new

-- memory was wanting before already, or for a step after these
abbrev pub GetsLost : ℕ → ℕ → StoreRun → StoreRun → Type 0
GetsLost most until old new =
    (old.run.lost ≡ true) × (new.run ≡ old.run) ⊎ (old.run.lost ≡ false) × (new.run.lost ≡ true) × GoesAlong most until old new × MayWantAt old.linked new.run
