-- What the calls of a board do to its programs.
-- Serves the contracts of this crate, which follow Turns and Boards of `spec_boards`.
use Rattle.std.specs.Prelude.{◌≡◌, ◌≤◌, ◌<◌, ◌+◌, ◌-◌, ◌^◌, ◌⊎◌, ℕ, List, length, slice_get, slice_set, min, Some, true, false, Result, Ok, Err}
use Rattle.spec_loading.specs.wasm_form.declared.memory.Memory.{Memory}
use Rattle.spec_loading.specs.wasm_form.declared.runtime.Answer.{Answer}
use Rattle.spec_loading.specs.spec_runtime.Recorded.{Recorded}
use Rattle.spec_loading.specs.spec_runtime.Courses.{with_answer, as_lost}
use Rattle.spec_boards.specs.declared.turn.Turn.{Turn}
use Rattle.spec_boards.specs.declared.turn.Stop.{Stop}
use Rattle.spec_boards.specs.Turns.{Place, Turned, turn_of}
use Rattle.dyl_store.specs.Stores.{set_course, MayWantAt}
use Rattle.slice_board.specs.declared.picker.Picker.{Picker}
use Rattle.slice_board.specs.declared.board.Seat.{Seat}
use Rattle.slice_board.specs.declared.board.BoardFault.{BoardFault}
use Rattle.slice_board.specs.declared.board.BoardFault.TheVariants as fault

-- the most programs of a board
abbrev pub most_programs : ℕ
most_programs = 64

-- the number of a turn stands at its last value
abbrev pub next_turn : ℕ → ℕ
next_turn n = min (n + 1) (2 ^ 64 - 1)

-- there is no room for one program more; or there is, and memory was wanting
abbrev pub IsFull : BoardFault → ℕ → Type 0
IsFull fault.Full count = count ≡ most_programs
IsFull fault.Memory count = count < most_programs

-- where what is recorded of a program has come to
abbrev pub place_of : Recorded → Place
place_of x = record { steps = x.steps; given = x.answers }

-- what is recorded of a program has come to a place, and memory wasn't wanting
abbrev pub IsAtPlace : Recorded → Place → Type 0
IsAtPlace x p = (x.lost ≡ false) × (place_of x ≡ p)

-- These steps were made in a turn, which stopped so: as the definition of a turn says.
abbrev pub IsTurnOf : Turned → ℕ → Stop → Recorded → Type 0
IsTurnOf t steps why new = IsAtPlace new t.place × (t.made ≡ steps) × (t.why ≡ why)

-- A turn of the program of a seat, of at most so many steps, made these and stopped so. Memory wasn't wanting for it before.
pub record MadeTurn (slice : ℕ) (old new : Seat) (steps : ℕ) (why : Stop) : Type 0 where
  pub found : old.store.run.lost ≡ false
  pub taken : IsTurnOf (turn_of (set_course old.store.linked) old.most slice (place_of old.store.run)) steps why new.store.run

-- In a turn memory was wanting for a step that may want it. The steps before it were made, as the definition of the turn says.
pub record LosesStep (slice : ℕ) (old new : Seat) : Type 0 where
  pub found : old.store.run.lost ≡ false
  pub lost : new.store.run.lost ≡ true
  pub answers : new.store.run.answers ≡ old.store.run.answers
  pub more : old.store.run.steps ≤ new.store.run.steps
  pub within : new.store.run.steps ≤ (turn_of (set_course old.store.linked) old.most slice (place_of old.store.run)).place.steps
  pub wanting : MayWantAt old.store.linked new.store.run

-- Memory was wanting: before the turn already, in which nothing was done then, or in it.
abbrev pub LostTurn : ℕ → Seat → Seat → Type 0
LostTurn slice old new = (old.store.run.lost ≡ true) × (new.store.run ≡ old.store.run) ⊎ LosesStep slice old new

abbrev pub ComesOfTurn : ℕ → ℕ → Seat → Seat → Result Turn Memory → Type 0
ComesOfTurn slice p old new (Ok t) = (t.program ≡ p) × MadeTurn slice old new t.steps t.stop
ComesOfTurn slice p old new (Err why) = LostTurn slice old new

-- The program of a number that is picked takes the turn of a number. No other one changes, and it stays the program that it is.
pub record TakesTurn (pick : ℕ → ℕ → ℕ → Type 0) (slice : ℕ) (result : Result Turn Memory) (turn : ℕ) (olds news : List Seat) : Type 0 where
  pub program : ℕ
  pub picked : pick turn (length olds) program
  pub old : Seat
  pub there : slice_get olds program ≡ Some old
  pub new : Seat
  pub set : news ≡ slice_set olds program new
  pub linked : new.store.linked ≡ old.store.linked
  pub most : new.most ≡ old.most
  pub comes : ComesOfTurn slice program old new result

-- An answer to the program of a number was recorded, or memory was wanting for it. No other one changes.
abbrev pub AnswersTo : Answer → Seat → Seat → Result (Unit {0}) Memory → Type 0
AnswersTo a old new (Ok done) = new.store.run ≡ with_answer old.store.run a
AnswersTo a old new (Err why) = new.store.run ≡ as_lost old.store.run

pub record Answers (program : ℕ) (a : Answer) (result : Result (Unit {0}) Memory) (olds news : List Seat) : Type 0 where
  pub old : Seat
  pub there : slice_get olds program ≡ Some old
  pub new : Seat
  pub set : news ≡ slice_set olds program new
  pub linked : new.store.linked ≡ old.store.linked
  pub most : new.most ≡ old.most
  pub comes : AnswersTo a old new result

module _ {X : Type 0} {F : X → Type 0} {g : _} where
  -- what a picker may answer for the turn of a number and so many programs
  abbrev pub picks_of : Picker X F g → ℕ → ℕ → ℕ → Type 0
  picks_of picker turn count program = g.post (picker.f.vtable, picker.f.value) (turn, (count, tt)) program
