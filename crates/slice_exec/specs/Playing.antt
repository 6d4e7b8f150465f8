-- A board of linked sets between its turns, and what answers the calls of its programs.
-- Serves the contracts of this crate, which follow BoardRuns of `spec_boards`.
use Rattle.std.specs.Prelude.{◌≡◌, ◌≤◌, ◌<◌, ◌+◌, ◌-◌, ◌⊎◌, ℕ, List, [], ◌∷◌, length, map, sum, take, slice_get, slice_set, Some, true, false, Result, Ok, Err, OnOk, IfOk}
use Rattle.std.specs.List.{All, AllZip}
use Rattle.spec_hosts.specs.wasm_form.declared.memory.Memory.{Memory}
use Rattle.spec_hosts.specs.wasm_form.declared.runtime.Answer.{Answer}
use Rattle.spec_hosts.specs.spec_runs.Systems.{Waits}
use Rattle.spec_hosts.specs.spec_runtime.Hosts.{HostCall, answer_fits}
use Rattle.spec_hosts.specs.spec_runtime.Recorded.{Recorded}
use Rattle.spec_hosts.specs.spec_runtime.Courses.{Course, status_at, memory_at, is_waiting, with_answer}
use Rattle.spec_hosts.specs.Devices.{Devices}
use Rattle.spec_hosts.specs.Hosted.{Embedder, CallComesTo}
use Rattle.spec_hosts.specs.Ends.{bytes_written, are_many}
use Rattle.spec_hosts.specs.declared.ran.Ran.{Ran}
use Rattle.spec_loading.specs.spec_linking.LinkedSets.{LinkedSet, hosts_of}
use Rattle.spec_boards.specs.Turns.{Place}
use Rattle.spec_boards.specs.BoardRuns.{is_done, EndsBy, IsBoardCut}
use Rattle.spec_boards.specs.Laws.{IsRealPlace}
use Rattle.spec_boards.specs.Played.{Played}
use Rattle.dyl_link.specs.host_table.declared.entry.HostTable.{HostTable}
use Rattle.dyl_store.specs.Stores.{StoreRun, set_course, new_run}
use Rattle.host_calls.specs.declared.hosts.Hosts.{Hosts}
use Rattle.host_calls.specs.Bindings.{AreBindings}
use Rattle.host_calls.specs.Embedders.{names_of, embedder_of, embedder}
use Rattle.dyl_link.specs.host_table.Names.{HaveIntegers}
use Rattle.wasm_exec.specs.Driving.{IsFree}
use Rattle.slice_board.specs.Taken.{place_of}
use Rattle.slice_board.specs.declared.board.Seat.{Seat}
use Rattle.slice_exec.specs.declared.tally.Tally.{Tally}

-- ---- the programs

-- a set that was loaded, of at most so many steps
abbrev pub new_seat : ℕ → LinkedSet → Seat
new_seat most L = record { store = new_run L; most = most }

-- the sets, and how far the programs have come
abbrev pub sets_in : List Seat → List LinkedSet
sets_in seats = map (λ (s : Seat). s.store.linked) seats

abbrev pub places_in : List Seat → List Place
places_in seats = map (λ (s : Seat). place_of s.store.run) seats

-- the bytes that answers have written, and those of each program
abbrev pub written_by : List Answer → ℕ
written_by answers = sum (map bytes_written answers)

abbrev pub written_in : List Seat → List ℕ
written_in seats = map (λ (s : Seat). written_by s.store.run.answers) seats

-- A run of at most so many steps between turns: memory wasn't wanting, and the last of its answers was given where a further one was answered.
pub record IsSeated (most : ℕ) (x : Recorded) : Type 0 where
  pub found : x.lost ≡ false
  pub room : are_many (take (length x.answers - 1) x.answers) ≡ false
  pub few : x.steps ≤ most

-- some program could go on, or none
abbrev pub SomeGoes : ℕ → List Seat → Type 0
SomeGoes most seats = (i : ℕ) × (s : Seat) × (slice_get seats i ≡ Some s) × (is_done (set_course s.store.linked) most (place_of s.store.run) ≡ false)

abbrev pub IsDone : ℕ → Seat → Type 0
IsDone most s = is_done (set_course s.store.linked) most (place_of s.store.run) ≡ true

abbrev pub AllDone : ℕ → List Seat → Type 0
AllDone most seats = All (IsDone most) seats

-- no limit was due before one of its steps
abbrev pub IsFreeSeat : Seat → Type 0
IsFreeSeat s = IsFree (set_course s.store.linked) s.store.run.steps s.store.run.answers

-- what is told of a program at the end, where the turns may be used up: each of its steps was a real one
abbrev pub IsRan : Seat → Ran → Type 0
IsRan s r =
    (r.steps ≡ s.store.run.steps) × (r.answers ≡ s.store.run.answers) × IsRealPlace (set_course s.store.linked) (place_of s.store.run)
    × EndsBy true (set_course s.store.linked) s.most (place_of s.store.run) r.end

-- ---- one call

-- what came of the call that a run waits for
abbrev pub CallGives : Embedder → Course → Recorded → Result Answer Memory → Devices → Devices → Type 0
CallGives embedder C x result old new =
    (call : HostCall) × (status_at C x ≡ Waits call) × CallComesTo embedder (call, memory_at C x) result old new × IfOk result (λ a. answer_fits call (memory_at C x) a ≡ true)

module _ {X : Type 0} {F : X → Type 0} {g : _} where
  -- what answers the calls of a program with this one argument, over a table, for its set
  abbrev pub IsHostsOf : List ℕ → HostTable X F g → LinkedSet → Hosts X F g → Type 0
  IsHostsOf name table L h = (h.wasi ≡ name ∷ []) × (h.table.now ≡ table) × AreBindings table (hosts_of L) h.bindings.items

  -- The run waits for a call, and what answers it was found. Its set was linked over host functions that have integers.
  pub record IsAsking (h : Hosts X F g) (s : StoreRun) : Type 0 where
    pub found : s.run.lost ≡ false
    pub waiting : is_waiting (set_course s.linked) s.run ≡ true
    pub names : s.linked.names ≡ names_of h.table.now
    pub integers : HaveIntegers (names_of h.table.now)
    pub bound : AreBindings h.table.now (hosts_of s.linked) h.bindings.items

  abbrev pub Asks : Hosts X F g → StoreRun → Result Answer Memory → Devices → Devices → Type 0
  Asks h s result old new = CallGives (embedder h) (set_course s.linked) s.run result old new

  -- the same of the program of a number, for which a further call is answered
  abbrev pub IsServing : Hosts X F g → ℕ → List Seat → List ℕ → Type 0
  IsServing h p seats written = (s : Seat) × (slice_get seats p ≡ Some s) × IsAsking h s.store × (written ≡ written_in seats) × (are_many s.store.run.answers ≡ false)

  -- Its call was answered, and the answer is recorded and counted; or memory was wanting.
  abbrev pub ServeGives : Hosts X F g → ℕ → Seat → Result (Unit {0}) Memory → List Seat → List Seat → List ℕ → Devices → Devices → Type 0
  ServeGives h p s (Ok done) olds news written old new =
      (a : Answer) × (t : Seat) × (t.store.linked ≡ s.store.linked) × (t.most ≡ s.most) × (t.store.run ≡ with_answer s.store.run a) × (news ≡ slice_set olds p t) × (written ≡ written_in news)
      × CallGives (embedder h) (set_course s.store.linked) s.store.run (Ok a) old new
  ServeGives h p s (Err why) olds news written old new = (r : Result Answer Memory) × CallGives (embedder h) (set_course s.store.linked) s.store.run r old new

  abbrev pub Serves : Hosts X F g → ℕ → Result (Unit {0}) Memory → List Seat → List ℕ → List Seat → List ℕ → Devices → Devices → Type 0
  Serves h p result olds before news written old new = (s : Seat) → slice_get olds p ≡ Some s → ServeGives h p s result olds news written old new

-- ---- the board with what was done to the devices

-- Turns were taken, as the definition of a run says, and led the programs there.
pub record IsAtRound (Ls : List LinkedSet) (most slice turns : ℕ) (pick : ℕ → ℕ → ℕ → Type 0) (embedder : Embedder) (seats : List Seat) (turn : ℕ) (tally : Tally) (begun now : Devices) : Type 0 where
  pub limits : All (λ (s : Seat). s.most ≡ most) seats
  pub each : All (λ (s : Seat). IsSeated most s.store.run) seats
  pub free : All IsFreeSeat seats
  pub counted : turn ≡ length tally.picks.items
  pub written : tally.written.items ≡ written_in seats
  pub played : Played set_course Ls most slice turns pick embedder tally.picks.items (places_in seats) begun now

-- it was taken; or memory was wanting
abbrev pub RoundComes : Result (Unit {0}) Memory → List LinkedSet → ℕ → ℕ → ℕ → (ℕ → ℕ → ℕ → Type 0) → Embedder → List Seat → ℕ → Tally → Devices → Devices → Type 0
RoundComes (Ok done) Ls most slice turns pick embedder seats turn tally begun now = IsAtRound Ls most slice turns pick embedder seats turn tally begun now
RoundComes (Err why) Ls most slice turns pick embedder seats turn tally begun now = IsBoardCut set_course Ls most slice turns pick embedder begun now

-- before the first turn
abbrev pub IsFresh : ℕ → List Seat → ℕ → Tally → Type 0
IsFresh most seats turn tally = (seats ≡ map (new_seat most) (sets_in seats)) × (turn ≡ 0) × (tally.picks.items ≡ []) × (tally.written.items ≡ map (λ (L : LinkedSet). 0) (sets_in seats))

-- no program was added
abbrev pub IsUnused : List Seat → ℕ → Tally → Type 0
IsUnused seats turn tally = (seats ≡ []) × (turn ≡ 0) × (tally.picks.items ≡ []) × (tally.written.items ≡ [])

-- turns were taken until none was left or no program could go on
abbrev pub IsPlayed : List LinkedSet → ℕ → ℕ → ℕ → (ℕ → ℕ → ℕ → Type 0) → Embedder → List Seat → Tally → Devices → Devices → Type 0
IsPlayed Ls most slice turns pick embedder seats tally begun now =
    IsAtRound Ls most slice turns pick embedder seats (length tally.picks.items) tally begun now × ((length tally.picks.items ≡ turns) ⊎ AllDone most seats)

abbrev pub PlayComes : Result (Unit {0}) Memory → List LinkedSet → ℕ → ℕ → ℕ → (ℕ → ℕ → ℕ → Type 0) → Embedder → List Seat → Tally → Devices → Devices → Type 0
PlayComes (Ok done) Ls most slice turns pick embedder seats tally begun now = IsPlayed Ls most slice turns pick embedder seats tally begun now
PlayComes (Err why) Ls most slice turns pick embedder seats tally begun now = IsBoardCut set_course Ls most slice turns pick embedder begun now

-- the same of sets that were put onto a board which had none
abbrev pub RunsBoard : List LinkedSet → Embedder → ℕ → ℕ → ℕ → (ℕ → ℕ → ℕ → Type 0) → Result (Unit {0}) Memory → List Seat → Tally → Devices → Devices → Type 0
RunsBoard Ls embedder most slice turns pick result seats tally begun now =
    OnOk result (sets_in seats ≡ Ls) × PlayComes result Ls most slice turns pick embedder seats tally begun now

module _ {X : Type 0} {F : X → Type 0} {g : _} where
  -- for each set there is what answers its calls, each linked over host functions that have integers
  abbrev pub AreHostsOf : List ℕ → HostTable X F g → List (Hosts X F g) → List LinkedSet → Type 0
  AreHostsOf name table hosts Ls = AllZip (IsHostsOf name table) Ls hosts × All (λ (L : LinkedSet). L.names ≡ names_of table) Ls × HaveIntegers (names_of table)

  abbrev pub HaveHosts : List (Hosts X F g) → List LinkedSet → Type 0
  HaveHosts hosts Ls = (name : List ℕ) × (table : HostTable X F g) × AreHostsOf name table hosts Ls

  -- a further turn may be taken
  abbrev pub IsReady : ℕ → (ℕ → ℕ → ℕ → Type 0) → List (Hosts X F g) → List Seat → ℕ → Tally → Devices → Type 0
  IsReady slice pick hosts seats turn tally now =
      (name : List ℕ) × (table : HostTable X F g) × AreHostsOf name table hosts (sets_in seats)
      × (most turns : ℕ) × (begun : Devices) × IsAtRound (sets_in seats) most slice turns pick (embedder_of (name ∷ []) table) seats turn tally begun now
      × (turns < 4294967296) × (length tally.picks.items < turns) × SomeGoes most seats

  abbrev pub RoundGives : ℕ → (ℕ → ℕ → ℕ → Type 0) → List (Hosts X F g) → Result (Unit {0}) Memory → List Seat → ℕ → Tally → List Seat → ℕ → Tally → Devices → Devices → Type 0
  RoundGives slice pick hosts result seats turn tally news next told before now =
      OnOk result ((sets_in news ≡ sets_in seats) × (length told.picks.items ≡ length tally.picks.items + 1))
      × ((name : List ℕ) (table : HostTable X F g) → AreHostsOf name table hosts (sets_in seats) → (most turns : ℕ) (begun : Devices)
      → IsAtRound (sets_in seats) most slice turns pick (embedder_of (name ∷ []) table) seats turn tally begun before → turns < 4294967296 → length tally.picks.items < turns → SomeGoes most seats
      → RoundComes result (sets_in seats) most slice turns pick (embedder_of (name ∷ []) table) news next told begun now)

  -- turns were taken since the board was begun, over the host functions of each of its sets
  abbrev pub IsPlaying : ℕ → ℕ → ℕ → (ℕ → ℕ → ℕ → Type 0) → List (Hosts X F g) → List Seat → List Seat → ℕ → Tally → Devices → Devices → Type 0
  IsPlaying most slice turns pick hosts olds seats turn tally begun now =
      (name : List ℕ) (table : HostTable X F g) → AreHostsOf name table hosts (sets_in olds)
      → IsAtRound (sets_in olds) most slice turns pick (embedder_of (name ∷ []) table) seats turn tally begun now

  abbrev pub PlayGives : ℕ → ℕ → ℕ → (ℕ → ℕ → ℕ → Type 0) → List (Hosts X F g) → Result (Unit {0}) Memory → List Seat → List Seat → Tally → Devices → Devices → Type 0
  PlayGives most slice turns pick hosts result seats news told begun now =
      OnOk result (sets_in news ≡ sets_in seats)
      × ((name : List ℕ) (table : HostTable X F g) → AreHostsOf name table hosts (sets_in seats)
      → PlayComes result (sets_in seats) most slice turns pick (embedder_of (name ∷ []) table) news told begun now)
