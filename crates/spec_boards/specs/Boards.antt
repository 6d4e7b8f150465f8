-- Several programs that run in turns: each turn is one program's, and the call at which it stops is answered before the next.
-- This profile: docs/FORMATS.md, "Turns".
use Rattle.std.specs.Prelude.{ℕ, List, [], ◌∷◌, ◌++◌, map, slice_get, slice_set, nat_eq, Option, Some, None, if◌then◌else◌}
use Rattle.spec_hosts.specs.wasm_form.declared.runtime.Answer.{Answer}
use Rattle.spec_hosts.specs.wasm_form.declared.runtime.Trap.{Trap}
use Rattle.spec_hosts.specs.spec_runs.Systems.{Status, Waits}
use Rattle.spec_hosts.specs.spec_runtime.Memories.{MemoryInstance}
use Rattle.spec_hosts.specs.spec_runtime.Hosts.{HostCall, answer_fits}
use Rattle.spec_hosts.specs.spec_runtime.Courses.{Course}
use Rattle.spec_boards.specs.declared.turn.Stop.{Stop}
use Rattle.spec_boards.specs.declared.turn.Stop.TheVariants as stop
use Rattle.spec_boards.specs.Turns.{Place, reached, Turned, turn_of}

-- A program on a board: what is run, the most steps that it may make, how far it has come, and the answers that are still to be recorded.
pub record Seat (P : Type 0) : Type 0 where
  pub program : P
  pub most : ℕ
  pub place : Place
  pub coming : List Answer

-- A host call of the program of a number, with the memory on which it was made, and its answer.
pub record Served : Type 0 where
  pub program : ℕ
  pub call : HostCall × MemoryInstance
  pub answer : Answer

-- The programs, and the calls that were answered, in the order of the turns.
pub record Board (P : Type 0) : Type 0 where
  pub seats : List (Seat P)
  pub served : List Served

-- no program has made a step; each begins at its opening state
abbrev pub seated : {P : Type 0} → P × (ℕ × List Answer) → Seat P
seated x = record { program = x.0; most = x.1.0; place = record { steps = 0; given = [] }; coming = x.1.1 }

abbrev pub opened : {P : Type 0} → List (P × (ℕ × List Answer)) → Board P
opened xs = record { seats = map seated xs; served = [] }

-- ---- the call at which a turn stopped

-- with the next of the answers of its program, if there is one and it fits, and the answers that are still to come
abbrev pub next_served : ℕ → Status HostCall Trap → MemoryInstance → List Answer → Option (Served × List Answer)
next_served i (Waits call) memory (a ∷ coming) = if answer_fits call memory a then Some (record { program = i; call = (call, memory); answer = a }, coming) else None
next_served i _ memory coming = None

-- only where a turn stopped at a call that one is answered before the next turn
abbrev pub answer_after : Stop → Option (Served × List Answer) → Option (Served × List Answer)
answer_after stop.Waits x = x
answer_after stop.Ended x = None
answer_after stop.StepLimit x = None
answer_after stop.Spent x = None
answer_after stop.Deep x = None

-- the program of a seat has come to a place
abbrev pub moved : {P : Type 0} → Seat P → Place → Seat P
moved seat place = record seat { place = place }

-- its answer is recorded there
abbrev pub with_answer : {P : Type 0} → Seat P → Place → Served × List Answer → Seat P
with_answer seat place x = record seat { place = record place { given = place.given ++ x.0.answer ∷ [] }; coming = x.1 }

abbrev pub serving : {P : Type 0} → Board P → ℕ → Seat P → Place → Option (Served × List Answer) → Board P
serving b i seat place None = record b { seats = slice_set b.seats i (moved seat place) }
serving b i seat place (Some x) = record { seats = slice_set b.seats i (with_answer seat place x); served = b.served ++ x.0 ∷ [] }

-- ---- turns

module _ {P : Type 0} (course : P → Course) where
  -- the turn of the program of a seat
  abbrev pub turn_in : ℕ → Seat P → Turned
  turn_in slice seat = turn_of (course seat.program) seat.most slice seat.place

  abbrev pub served_at : ℕ → Seat P → Turned → Option (Served × List Answer)
  served_at i seat t =
      let s = (reached (course seat.program) t.place).state in
      next_served i ((course seat.program).system.status s) ((course seat.program).system.memory s) seat.coming

  abbrev pub after_turn : Board P → ℕ → Seat P → Turned → Board P
  after_turn b i seat t = serving b i seat t.place (answer_after t.why (served_at i seat t))

  abbrev pub turn_at : ℕ → Board P → ℕ → Option (Seat P) → Board P
  turn_at slice b i None = b
  turn_at slice b i (Some seat) = after_turn b i seat (turn_in slice seat)

  -- the turn of the program that was picked
  abbrev pub turn : ℕ → Board P → ℕ → Board P
  turn slice b i = turn_at slice b i (slice_get b.seats i)

  -- the turns of these picks, in order
  abbrev pub turns : ℕ → Board P → List ℕ → Board P
  turns slice b [] = b
  turns slice b (i ∷ picks) = turns slice (turn slice b i) picks

  -- The run of a board: these programs, each with its limit of steps and its answers, in turns of this many steps, by these picks.
  abbrev pub board : List (P × (ℕ × List Answer)) → ℕ → List ℕ → Board P
  board programs slice picks = turns slice (opened programs) picks

-- ---- what was served

-- to the program of a number
abbrev pub only_of : ℕ → List Served → List Served
only_of i [] = []
only_of i (x ∷ xs) = if nat_eq i x.program then x ∷ only_of i xs else only_of i xs

abbrev pub calls_of : List Served → List (HostCall × MemoryInstance)
calls_of xs = map (λ (x : Served). x.call) xs

abbrev pub answers_of : List Served → List Answer
answers_of xs = map (λ (x : Served). x.answer) xs
