-- What is so of turns and of the calls that are answered between them.
-- Part of the statement of laws: docs/LAWS.md, "Of programs in turns".
use Rattle.std.specs.Prelude.{◌≡◌, ◌≤◌, ◌<◌, ℕ, ◌+◌, ◌*◌, ◌%◌, List, [], ◌∷◌, ◌++◌, length, slice_get, nat_eq, Bool, Some, None, if◌then◌else◌}
use Rattle.std.specs.List.{All}
use Rattle.spec_hosts.specs.wasm_form.declared.runtime.Answer.{Answer}
use Rattle.spec_hosts.specs.spec_runs.Systems.{Moving, event, IsReal}
use Rattle.spec_hosts.specs.spec_runtime.Recorded.{AreLeft}
use Rattle.spec_hosts.specs.spec_runtime.Memories.{MemoryInstance}
use Rattle.spec_hosts.specs.spec_runtime.Hosts.{HostCall}
use Rattle.spec_hosts.specs.spec_runtime.Courses.{Course}
use Rattle.spec_boards.specs.declared.turn.Stop.TheVariants as stop
use Rattle.spec_boards.specs.Turns.{Place, reached, stop_at, Turned}
use Rattle.spec_boards.specs.Boards.{Seat, Board, only_of, calls_of, answers_of}

-- The steps of a program's place are real ones of its own run over its own answers.
abbrev pub IsRealPlace : Course → Place → Type 0
IsRealPlace C p = IsReal C.system p.steps C.opening p.given

-- A turn made so many steps, no more than it may, over the same answers; before none of them a cause to stop was due, and after them one is. One
-- that is spent made as many as it may.
pub record IsTurn (C : Course) (most slice : ℕ) (old : Place) (t : Turned) : Type 0 where
  pub same : t.place ≡ (record old { steps = old.steps + t.made })
  pub few : t.made ≤ slice
  pub free : (k : ℕ) → k < t.made → (rest : ℕ) → rest + k ≡ slice → stop_at C most rest (record old { steps = old.steps + k }) ≡ None
  pub due : (rest : ℕ) → rest + t.made ≡ slice → stop_at C most rest t.place ≡ Some t.why
  pub spent : t.why ≡ stop.Spent → t.made ≡ slice

-- A run over answers that are such always has a step where it goes on by itself, as the runs of checked code have over answers of bytes.
abbrev pub NeverStuck : (Answer → Type 0) → Course → Type 0
NeverStuck Such C = (p : Place) → All Such p.given → IsRealPlace C p → C.system.status (reached C p).state ≡ Moving → (t : C.system.State) × (C.system.step (reached C p).state ≡ Some t)

-- The calls of a run that has come further are those that it had come to, and then others.
abbrev pub CallsGrow : Course → Place → Place → Type 0
CallsGrow C p q = (calls : List (HostCall × MemoryInstance)) × ((reached C q).events ≡ (reached C p).events ++ calls)

-- a place that real steps came to, and one further on, over the same answers and further ones
pub record IsFurther (C : Course) (p q : Place) : Type 0 where
  pub real : IsRealPlace C p
  pub steps : p.steps ≤ q.steps
  pub more : List Answer
  pub given : q.given ≡ p.given ++ more

-- the call that a program waits for, where its answer isn't recorded
abbrev pub unserved : List Answer → List (HostCall × MemoryInstance) → List (HostCall × MemoryInstance)
unserved [] calls = calls
unserved (a ∷ left) calls = []

-- What was served to a program are the calls of its own run, each with its answer in order, but for the one that it waits at without an answer.
pub record IsServed {P : Type 0} (course : P → Course) (b : Board P) (i : ℕ) (seat : Seat P) : Type 0 where
  pub real : IsRealPlace (course seat.program) seat.place
  pub answered : Bool
  pub left : AreLeft answered ((course seat.program).system.status (reached (course seat.program) seat.place).state)
      ((course seat.program).system.memory (reached (course seat.program) seat.place).state) (reached (course seat.program) seat.place).left
  pub answers : answers_of (only_of i b.served) ≡ seat.place.given
  pub calls : (reached (course seat.program) seat.place).events
      ≡ calls_of (only_of i b.served) ++ unserved (reached (course seat.program) seat.place).left (event (course seat.program).system (reached (course seat.program) seat.place).state)

abbrev pub AllServed : {P : Type 0} → (P → Course) → Board P → Type 0
AllServed {P} course b = (i : ℕ) (seat : Seat P) → slice_get b.seats i ≡ Some seat → IsServed course b i seat

-- of some picks those of the program of a number, as the picks of a board that has no other
abbrev pub alone : ℕ → List ℕ → List ℕ
alone i [] = []
alone i (j ∷ picks) = if nat_eq i j then 0 ∷ alone i picks else alone i picks

-- how many of some picks are of the program of a number
abbrev pub turns_of : ℕ → List ℕ → ℕ
turns_of i [] = 0
turns_of i (j ∷ picks) = (if nat_eq i j then 1 else 0) + turns_of i picks

-- Where the number of each turn, modulo that of the programs, is picked, each program has one turn in each round.
abbrev pub RoundsAreFair : Type 0
RoundsAreFair = (n rounds i : ℕ) (picks : List ℕ) → i < n → ((k j : ℕ) → slice_get picks k ≡ Some j → j ≡ k % n) → length picks ≡ rounds * n → turns_of i picks ≡ rounds
