-- What an answer leaves of the counts that files keep: of the fetches that failed, of the stores that failed, and of the Absent answers. So
-- no fetch and no store fails untold, no path without a file is tried but those that are searched, and words that are no order touch no file.
-- Cited by the clause `counts` of `serve`.
-- This profile: docs/DECISIONS.md, "The outside".
use Rattle.std.specs.Prelude.{◌≡◌, ◌⊎◌, ◌≤◌, ℕ, List, [], ◌∷◌, Bool, true, false, Option, Result, Ok, Err}
use Rattle.std.specs.Option.{ForSome}
use Rattle.std.specs.FinMap.{get}
use Rattle.spec_loading.specs.spec_linking.Sets.{ClosedSet, SetOptions, default_options}
use Rattle.spec_loading.specs.spec_linking.declared.fault.SetFault.TheVariants.{Missing, ReadFault}
use Rattle.spec_loading.specs.spec_linking.declared.fault.SetFault.TheVariants as set
use Rattle.spec_hosts.specs.dyl_outside.Faults.{Rises, RisesByOne}
use Rattle.spec_hosts.specs.dyl_outside.FileMap.{FileMap}
use Rattle.spec_hosts.specs.dyl_outside.Files.{FilesState}
use Rattle.spec_traces.specs.declared.trace.Trace.{Trace}
use Rattle.dyl_link.specs.dyl_search.Absents.{CountsFor}
use Rattle.dyl_link.specs.dyl_search.Gathers.{options_of}
use Rattle.dyl_front.specs.declared.outcome.UsageKind.{UsageKind}
use Rattle.dyl_front.specs.declared.outcome.Outcome.{Outcome}
use Rattle.dyl_front.specs.declared.outcome.Outcome.TheVariants.{Done, Board, Set, WriteFault, Memory}
use Rattle.dyl_front.specs.declared.order.Order.{Order}
use Rattle.dyl_front.specs.declared.order.Order.TheVariants as order
use Rattle.dyl_commands.specs.Traced.{OfTrace, TellsTrace}

abbrev pub Stays : ℕ → ℕ → Type 0
Stays before now = now ≡ before

-- a fetch failed exactly where that is answered; a line that finds no memory may hide it
abbrev pub ReadsFor : Outcome → ℕ → ℕ → Type 0
ReadsFor (Set (ReadFault path)) before now = Rises before now
ReadsFor Memory before now = before ≤ now
ReadsFor _ before now = now ≡ before

-- so did the store of what was merged, of a trace, or of a snapshot
abbrev pub StoresFor : Outcome → ℕ → ℕ → Type 0
StoresFor WriteFault before now = Rises before now
StoresFor Memory before now = before ≤ now
StoresFor _ before now = now ≡ before

-- one file is absent exactly where it is answered as missing, and is tried once
abbrev pub AbsentsOfFile : Outcome → ℕ → ℕ → Type 0
AbsentsOfFile (Set (Missing name)) before now = RisesByOne before now
AbsentsOfFile Memory before now = before ≤ now
AbsentsOfFile _ before now = now ≡ before

-- a member that is found may have been absent from other paths
abbrev pub AbsentsOfSet : Outcome → ℕ → ℕ → Type 0
AbsentsOfSet (Set (Missing name)) before now = Rises before now
AbsentsOfSet _ before now = before ≤ now

-- Where the files are told, the count rises by one for each path that is tried for the set and has no file, and no more. Of a set that was
-- gathered these are all; where memory was wanting, some of the first ones.
abbrev pub TriedForSet : Option FileMap → SetOptions → Outcome → ℕ → ℕ → Type 0
TriedForSet told o (Set fault) before now = CountsFor told o (Err fault) before now
TriedForSet told o Memory before now = CountsFor told o (Err set.Memory) before now
TriedForSet told o _ before now = (S : ClosedSet) × CountsFor told o (Ok S) before now

-- of a set; what is stored counts so
pub record SetCounts (Stores : ℕ → ℕ → Type 0) (o : SetOptions) (answer : Outcome) (old new : FilesState) : Type 0 where
  pub reads : ReadsFor answer old.read_faults new.read_faults
  pub stores : Stores old.write_faults new.write_faults
  pub absents : AbsentsOfSet answer old.absents new.absents
  pub tried : TriedForSet old.told o answer old.absents new.absents

-- of one file
pub record FileCounts (Stores : ℕ → ℕ → Type 0) (answer : Outcome) (old new : FilesState) : Type 0 where
  pub reads : ReadsFor answer old.read_faults new.read_faults
  pub stores : Stores old.write_faults new.write_faults
  pub absents : AbsentsOfFile answer old.absents new.absents

-- of what is run: a set, or with `--one` the file at the path of its main module
abbrev pub ProgramCounts : Bool → (ℕ → ℕ → Type 0) → SetOptions → Outcome → FilesState → FilesState → Type 0
ProgramCounts false Stores o answer old new = SetCounts Stores o answer old new
ProgramCounts true Stores o answer old new = FileCounts Stores answer old new

-- of a trace that is replayed: of its file, where that gives none; where it does it leaves no count, and the program alone counts
abbrev pub ReplayCounts : Bool → List ℕ → SetOptions → Outcome → FilesState → FilesState → Type 0
ReplayCounts one path o answer old new =
    (ForSome old.told (λ told. TellsTrace (get told) path (Err answer)) × FileCounts Stays answer old new)
    ⊎ (ForSome old.told (λ told. (t : Trace) × OfTrace (get told) path (Ok t)) × ProgramCounts one Stays o answer old new)

-- of several sets: once each is linked no more is counted, as they are run, or as memory is wanting
abbrev pub AfterSets : Outcome → FilesState → FilesState → Type 0
AfterSets (Board ran) old new = new ≡ old
AfterSets Memory old new = new ≡ old
AfterSets _ old new = ⊥

-- and of the one that isn't linked
abbrev pub StopsAtSet : SetOptions → Outcome → FilesState → FilesState → Type 0
StopsAtSet o (Board ran) old new = ⊥
StopsAtSet o answer old new = SetCounts Stays o answer old new

-- They are gathered one after the other: each that links counts alone, and then those after it, up to the first that has a fault.
abbrev pub BoardCounts : List (List ℕ) → Outcome → FilesState → FilesState → Type 0
BoardCounts [] answer old new = AfterSets answer old new
BoardCounts (main ∷ mains) answer old new =
    StopsAtSet (default_options main) answer old new
    ⊎ ((middle : FilesState) × SetCounts Stays (default_options main) (Done []) old middle × (middle.told ≡ old.told) × BoardCounts mains answer middle new)

-- Only merging stores a file, tracing, and writing a snapshot. A generated set, and words that are no order, leave files as they were.
abbrev pub Counts : Result Order UsageKind → Outcome → FilesState → FilesState → Type 0
Counts (Err kind) answer old new = new ≡ old
Counts (Ok (order.Merge o link out)) answer old new = SetCounts (StoresFor answer) (options_of o) answer old new
Counts (Ok (order.Run o link steps args)) answer old new = SetCounts Stays (options_of o) answer old new
Counts (Ok (order.Exec file steps args)) answer old new = FileCounts Stays answer old new
Counts (Ok (order.Plan o link)) answer old new = SetCounts Stays (options_of o) answer old new
Counts (Ok (order.Gen n pages steps)) answer old new = new ≡ old
Counts (Ok (order.Trace one o link steps out args)) answer old new = ProgramCounts one (StoresFor answer) (options_of o) answer old new
Counts (Ok (order.Replay one path o link steps)) answer old new = ReplayCounts one path (options_of o) answer old new
Counts (Ok (order.Snap o link steps out)) answer old new = SetCounts (StoresFor answer) (options_of o) answer old new
Counts (Ok (order.Board mains link steps slice turns)) answer old new = BoardCounts mains answer old new
