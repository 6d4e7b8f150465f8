-- What a run of a board is, over one host: its turns, how each program ends, and what all host calls together do to the devices.
-- This profile: docs/FORMATS.md, "Turns".
use Rattle.std.specs.Prelude.{◌≡◌, ◌≤◌, ◌<◌, ◌⊎◌, ℕ, List, [], ◌∷◌, length, map, take, slice_get, nat_eq, Bool, true, false, ◌||◌, Some}
use Rattle.std.specs.List.{All}
use Rattle.spec_hosts.specs.wasm_form.declared.runtime.Answer.{Answer}
use Rattle.spec_hosts.specs.spec_runs.Systems.{event}
use Rattle.spec_hosts.specs.spec_runtime.Recorded.{has_ended}
use Rattle.spec_hosts.specs.spec_runtime.Courses.{Course}
use Rattle.spec_hosts.specs.declared.ran.Ran.{Ran}
use Rattle.spec_hosts.specs.declared.ran.RunEnd.{RunEnd}
use Rattle.spec_hosts.specs.declared.ran.RunEnd.TheVariants as end
use Rattle.spec_hosts.specs.Devices.{Devices}
use Rattle.spec_hosts.specs.Ends.{are_many, is_due, taken_of, EndsAs, Makes}
use Rattle.spec_hosts.specs.Hosted.{Embedder, Hosted, BreaksOff}
use Rattle.spec_boards.specs.declared.ran.BoardRan.{BoardRan}
use Rattle.spec_boards.specs.declared.turn.Stop.TheVariants as stop
use Rattle.spec_boards.specs.Turns.{Place, reached}
use Rattle.spec_boards.specs.Boards.{Seat, Board, turn_in, board, calls_of, answers_of}

-- ---- how a program stands

-- the answers that its steps took
abbrev pub taken_at : Course → Place → List Answer
taken_at C p = taken_of p.given (reached C p).left

-- it has ended, or a limit of its own is due
abbrev pub is_done : Course → ℕ → Place → Bool
is_done C most p = let s = (reached C p).state in has_ended (C.system.status s) || nat_eq p.steps most || is_due C.system C.deep s (taken_at C p)

-- How it ends: by itself, or by a limit of its own that is due; or, where neither is so and the turns are used up, by these.
abbrev pub EndsBy : Bool → Course → ℕ → Place → RunEnd → Type 0
EndsBy used C most p end.TurnLimit = (used ≡ true) × (is_done C most p ≡ false)
EndsBy used C most p e = EndsAs C.system C.deep most p.steps (reached C p).state (taken_at C p) e

-- what is told of it: its own steps, each a real one of its own run, before which no limit of its own was due; its own answers; and its end
pub record IsRanAs (used : Bool) (C : Course) (most : ℕ) (p : Place) (r : Ran) : Type 0 where
  pub steps : r.steps ≡ p.steps
  pub answers : r.answers ≡ p.given
  pub made : Makes C.system C.deep C.opening most p.steps p.given
  pub ends : EndsBy used C most p r.end

-- ---- turns with their answers

-- each program with the most steps that it may make and its answers
abbrev pub given_to : {P : Type 0} → ℕ → List P → List (List Answer) → List (P × (ℕ × List Answer))
given_to most [] given = []
given_to most (p ∷ ps) [] = (p, (most, [])) ∷ given_to most ps []
given_to most (p ∷ ps) (answers ∷ given) = (p, (most, answers)) ∷ given_to most ps given

-- Where a turn stopped at a call, an answer comes next, exactly where a further host call is answered.
abbrev pub IsAnswered : List Answer → List Answer → Type 0
IsAnswered given [] = are_many given ≡ true
IsAnswered given (a ∷ coming) = are_many given ≡ false

module _ {P : Type 0} (course : P → Course) where
  -- a turn of the program of a seat, on a board on which some program could go on
  pub record MayTurn (b : Board P) (i : ℕ) : Type 0 where
    pub seat : Seat P
    pub picked : slice_get b.seats i ≡ Some seat
    pub other : ℕ
    pub going : Seat P
    pub there : slice_get b.seats other ≡ Some going
    pub goes_on : is_done (course going.program) going.most going.place ≡ false

  -- the call at which it stopped, if it did, was answered where it may be
  abbrev pub IsTurnServed : ℕ → Seat P → Type 0
  IsTurnServed slice seat = (turn_in course slice seat).why ≡ stop.Waits → IsAnswered (turn_in course slice seat).place.given seat.coming

  -- These are the picks of so many turns at most, each an answer of the picker for its number and that of the programs. All answers were
  -- recorded; and the calls, in the order of the turns, did this to the devices.
  pub record AreTurns (programs : List (P × (ℕ × List Answer))) (slice most_turns : ℕ) (pick : ℕ → ℕ → ℕ → Type 0) (picks : List ℕ) (embedder : Embedder) (old new : Devices)
      : Type 0 where
    pub few : length picks ≤ most_turns
    pub picked : (k i : ℕ) → slice_get picks k ≡ Some i → pick k (length programs) i
    pub each : (k i : ℕ) → slice_get picks k ≡ Some i → (m : MayTurn (board course programs slice (take k picks)) i) × IsTurnServed slice m.seat
    pub recorded : All (λ (seat : Seat P). seat.coming ≡ []) (board course programs slice picks).seats
    pub hosted : Hosted embedder (calls_of (board course programs slice picks).served) (answers_of (board course programs slice picks).served) old new

  -- The programs were run from their opening states, in turns, as is told: each stands where its turns took it, and has ended, or has a limit
  -- due, or the turns are used up.
  pub record IsBoardRun (programs : List P) (most slice most_turns : ℕ) (pick : ℕ → ℕ → ℕ → Type 0) (embedder : Embedder) (r : BoardRan) (old new : Devices) : Type 0 where
    pub count : length r.runs ≡ length programs
    pub turns : AreTurns (given_to most programs (map (λ (x : Ran). x.answers) r.runs)) slice most_turns pick r.picks embedder old new
    pub ends : (i : ℕ) (seat : Seat P) (x : Ran)
        → slice_get (board course (given_to most programs (map (λ (y : Ran). y.answers) r.runs)) slice r.picks).seats i ≡ Some seat
        → slice_get r.runs i ≡ Some x → IsRanAs (nat_eq (length r.picks) most_turns) (course seat.program) most seat.place x

  -- a further turn stops at a call that is to be answered, of which at most the one use that it wants was begun
  pub record BreaksAtTurn (b : Board P) (slice turns most_turns : ℕ) (pick : ℕ → ℕ → ℕ → Type 0) (embedder : Embedder) (old new : Devices) : Type 0 where
    pub few : turns < most_turns
    pub program : ℕ
    pub picked : pick turns (length b.seats) program
    pub may : MayTurn b program
    pub stops : (turn_in course slice may.seat).why ≡ stop.Waits
    pub room : are_many (turn_in course slice may.seat).place.given ≡ false
    pub broken : BreaksOff embedder (event (course may.seat.program).system (reached (course may.seat.program) (turn_in course slice may.seat).place).state) old new

  -- Some turns were taken, as above, and did to the devices what these are in the middle; and memory was wanting.
  pub record IsBoardCut (programs : List P) (most slice most_turns : ℕ) (pick : ℕ → ℕ → ℕ → Type 0) (embedder : Embedder) (old new : Devices) : Type 0 where
    pub given : List (List Answer)
    pub count : length given ≡ length programs
    pub picks : List ℕ
    pub middle : Devices
    pub turns : AreTurns (given_to most programs given) slice most_turns pick picks embedder old middle
    pub broken : (new ≡ middle) ⊎ BreaksAtTurn (board course (given_to most programs given) slice picks) slice (length picks) most_turns pick embedder middle new
