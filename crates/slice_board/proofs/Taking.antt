-- A whole turn, by the steps that were made in it.
use Rattle.std.proofs.Common.{◌≡◌, ◌≤◌, ℕ, ◌+◌, ◌-◌, min, Some, sym, ap, ap₂, ◌∙◌, subst, le_refl, arith}
use Rattle.spec_loading.specs.spec_runtime.Courses.{Course}
use Rattle.spec_boards.specs.declared.turn.Stop.{Stop}
use Rattle.spec_boards.specs.Turns.{Turned, turned, turn_of}
use Rattle.dyl_store.specs.Stores.{StoreRun, set_course}
use Rattle.slice_board.specs.Taken.{place_of, IsTurnOf}
use Rattle.slice_board.specs.Steps.{turn_left, GoesAlong, GoesOn}
use Rattle.slice_board.proofs.Lefts.{left_stops, left_further}

module _ (slice most until : ℕ) (old new : StoreRun) (least : until ≡ min most (old.run.steps + slice)) where
  -- what is left of it before its first step is the whole turn
  whole : (C : Course) → turn_left C most old.run.steps (old.run.steps + slice) old.run ≡ turn_of C most slice (place_of old.run)
  whole C =
      let count : (old.run.steps + slice) - old.run.steps ≡ slice = omega arith in
      let none : old.run.steps - old.run.steps ≡ 0 = omega arith in
      ap₂ (λ n made. turned C most n (place_of old.run) made) count none

  abbrev its : Course
  its = set_course old.linked

  left : GoesAlong most until old new → turn_left its most old.run.steps (old.run.steps + slice) new.run ≡ turn_of its most slice (place_of old.run)
  left along = along.same old.run.steps (old.run.steps + slice) (le_refl old.run.steps) least ∙ whole its

  -- it stopped where a cause was due
  pub turn_made : (why : Stop) → GoesOn most until (Some why) old new → IsTurnOf (turn_of its most slice (place_of old.run)) (new.run.steps - old.run.steps) why new.run
  turn_made why goes =
      let due = goes.stops (old.run.steps + slice) least in
      let is = sym (left goes.along) ∙ left_stops its most old.run.steps (old.run.steps + slice) until least new.run why due in
      ((goes.still, sym (ap (λ (t : Turned). t.place) is)), ap (λ (t : Turned). t.made) is, ap (λ (t : Turned). t.why) is)

  -- it came no further than it leads
  pub turn_within : GoesAlong most until old new → new.run.steps ≤ (turn_of its most slice (place_of old.run)).place.steps
  turn_within along =
      subst (λ (t : Turned). new.run.steps ≤ t.place.steps) (left along) (left_further its most old.run.steps (old.run.steps + slice) until least new.run)
