-- The outcome that is due for what is asked over some files, if nothing outside fails and there is memory; and what an answer may be in its
-- place. Each command has its own rows, and no other outcome is ever due for it.
-- Cited by the clauses `due`, `tells`, `complete` and `quiet` of `serve`.
-- This profile: docs/FORMATS.md, "How it ends".
use Rattle.std.specs.Prelude.{◌≡◌, ◌≢◌, ◌⊎◌, ◌<◌, ◌≤◌, ◌^◌, List, [], ℕ, Bool, true, false, Result, Ok, Err}
use Rattle.spec_hosts.specs.dyl_outside.Faults.{Rose}
use Rattle.spec_hosts.specs.dyl_outside.Files.{FilesState}
use Rattle.spec_hosts.specs.spec_runtime.Names.{HostNames}
use Rattle.spec_hosts.specs.declared.ran.Ran as ran
use Rattle.spec_loading.specs.spec_linking.declared.fault.SetFault.TheVariants.{ReadFault}
use Rattle.spec_loading.specs.spec_linking.Sets.{Files, SetOptions}
use Rattle.spec_loading.specs.spec_linking.Gathering as gathering
use Rattle.spec_loading.specs.spec_linking.Plans.{LinkOptions}
use Rattle.spec_loading.specs.spec_linking.LinkedSets.{LinkedSet}
use Rattle.spec_merging.specs.declared.fault.MergeFault.{MergeFault}
use Rattle.spec_merging.specs.declared.fault.MergeFault.TheVariants as merge
use Rattle.merge_whole.specs.Merges.{bulk, IsTooLongFor, HasNoLongSection}
use Rattle.spec_snapshots.specs.declared.fault.SnapFault.{SnapFault}
use Rattle.spec_snapshots.specs.declared.fault.SnapFault.TheVariants as snap
use Rattle.spec_snapshots.specs.Causes.{state_after}
use Rattle.snap_merge.specs.Answers.{amount}
use Rattle.dyl_link.specs.dyl_search.Gathers.{options_of}
use Rattle.dyl_link.specs.Sets as links
use Rattle.run_loaded.specs.Courses.{Origin}
use Rattle.dyl_front.specs.declared.outcome.UsageKind.{UsageKind}
use Rattle.dyl_front.specs.declared.outcome.Outcome.{Outcome}
use Rattle.dyl_front.specs.declared.outcome.Outcome.TheVariants.{Done, Ran, Board, Usage, Set, Merge, Single, TooLong, Snap, WriteFault, Memory}
use Rattle.dyl_front.specs.declared.order.Order.{Order}
use Rattle.dyl_front.specs.declared.order.Order.TheVariants as order
use Rattle.dyl_commands.specs.OneFile.{OfFile, OpensAt, IsRefusedAt}
use Rattle.dyl_commands.specs.Linking.{linked, LinksAt, FaultDue}
use Rattle.dyl_commands.specs.StartUp.{StartsUp, HasNoSnapshot, SnapDue}
use Rattle.dyl_commands.specs.Generated.{GenDue}
use Rattle.dyl_commands.specs.Traced.{IsProgram, ProgramTries, ReplayDue}
use Rattle.dyl_commands.specs.Sets.{AllLink, FirstFault, SetsTry}

-- ---- merging, running and listing a set

abbrev pub MergeDue : HostNames → Files → SetOptions → LinkOptions → Outcome → Type 0
MergeDue names files o link (Done []) = LinksAt names files o link
MergeDue names files o link due = FaultDue names files o link due

-- a run is due, whatever comes of it
abbrev pub RunDue : HostNames → Files → SetOptions → LinkOptions → Outcome → Type 0
RunDue names files o link (Ran ran) = LinksAt names files o link
RunDue names files o link due = FaultDue names files o link due

abbrev pub PlanDue : HostNames → Files → SetOptions → LinkOptions → Outcome → Type 0
PlanDue names files o link (Done []) = LinksAt names files o link
PlanDue names files o link due = FaultDue names files o link due

-- ---- running a module

-- a run is due, whatever comes of it, where the module opens
abbrev pub ExecDue : HostNames → Files → List ℕ → Outcome → Type 0
ExecDue names files path (Ran ran) = OpensAt names files path
ExecDue names files path (Set fault) = OfFile files path (Err fault)
ExecDue names files path (Single fault) = IsRefusedAt names files path fault
ExecDue names files path _ = ⊥

-- ---- a run of which there is to be a trace: of a set, or with `--one` of a module

-- a run is due as it is where there is to be none
abbrev pub TraceDue : HostNames → Files → Bool → SetOptions → LinkOptions → Outcome → Type 0
TraceDue names files false o link due = RunDue names files o link due
TraceDue names files true o link due = ExecDue names files o.main due

-- ---- sets that run in turns

-- a run is due, whatever comes of it, where each set links, and else the first fault that one of them has
abbrev pub BoardDue : HostNames → Files → List (List ℕ) → LinkOptions → Outcome → Type 0
BoardDue names files mains link (Board ran) = AllLink names files mains link
BoardDue names files mains link due = FirstFault names files mains link due

-- ---- what is asked: an order, or words that are none

abbrev pub DueFor : HostNames → Files → Result Order UsageKind → Outcome → Type 0
DueFor names files (Err kind) due = due ≡ Usage kind
DueFor names files (Ok (order.Merge o link out)) due = MergeDue names files (options_of o) (links.options_of link) due
DueFor names files (Ok (order.Run o link steps args)) due = RunDue names files (options_of o) (links.options_of link) due
DueFor names files (Ok (order.Exec file steps args)) due = ExecDue names files file due
DueFor names files (Ok (order.Plan o link)) due = PlanDue names files (options_of o) (links.options_of link) due
DueFor names files (Ok (order.Gen n pages steps)) due = GenDue names n pages due
DueFor names files (Ok (order.Trace one o link steps out args)) due = TraceDue names files one (options_of o) (links.options_of link) due
DueFor names files (Ok (order.Replay one trace o link steps)) due = ReplayDue names files one trace (options_of o) (links.options_of link) steps due
DueFor names files (Ok (order.Snap o link steps out)) due = SnapDue names files (options_of o) (links.options_of link) steps due
DueFor names files (Ok (order.Board mains link steps slice turns)) due = BoardDue names files mains (links.options_of link) due

-- a path at which a file is sought
abbrev pub Tries : HostNames → Files → Result Order UsageKind → List ℕ → Type 0
Tries names files (Err kind) path = ⊥
Tries names files (Ok (order.Merge o link out)) path = gathering.Tries files (options_of o) path
Tries names files (Ok (order.Run o link steps args)) path = gathering.Tries files (options_of o) path
Tries names files (Ok (order.Exec file steps args)) path = path ≡ file
Tries names files (Ok (order.Plan o link)) path = gathering.Tries files (options_of o) path
Tries names files (Ok (order.Gen n pages steps)) path = ⊥
Tries names files (Ok (order.Trace one o link steps out args)) path = ProgramTries files one (options_of o) path
Tries names files (Ok (order.Replay one trace o link steps)) path = (path ≡ trace) ⊎ ProgramTries files one (options_of o) path
Tries names files (Ok (order.Snap o link steps out)) path = gathering.Tries files (options_of o) path
Tries names files (Ok (order.Board mains link steps slice turns)) path = SetsTry names files mains (links.options_of link) path

-- the merged module of a set has a section that is too long
pub record HasLongSection (names : HostNames) (files : Files) (o : SetOptions) (link : LinkOptions) (id : ℕ) : Type 0 where
  pub merges : LinksAt names files o link
  pub long : IsTooLongFor (linked names link merges.set) id

abbrev pub MergeFaultTells : HostNames → Files → Result Order UsageKind → MergeFault → Type 0
MergeFaultTells names files (Ok (order.Merge o link out)) (merge.SectionSize id) = HasLongSection names files (options_of o) (links.options_of link) id
MergeFaultTells names files _ _ = ⊥

-- a run was due, of which there is to be a trace
abbrev pub TooLongTells : HostNames → Files → Result Order UsageKind → ran.Ran → Type 0
TooLongTells names files (Ok (order.Trace one o link steps out args)) run = TraceDue names files one (options_of o) (links.options_of link) (Ran run)
TooLongTells names files _ run = ⊥

-- a set that links has no snapshot, for this reason
abbrev pub SnapFaultTells : HostNames → Files → Result Order UsageKind → SnapFault → Type 0
SnapFaultTells names files asked snap.Memory = ⊥
SnapFaultTells names files (Ok (order.Snap o link steps out)) why = HasNoSnapshot names files (options_of o) (links.options_of link) steps why
SnapFaultTells names files _ why = ⊥

-- so it is where a trace couldn't be written; where anything else couldn't, Done was due
abbrev pub WriteFaultTells : HostNames → Files → Result Order UsageKind → Type 0
WriteFaultTells names files (Ok (order.Trace one o link steps out args)) = (run : ran.Ran) × TraceDue names files one (options_of o) (links.options_of link) (Ran run)
WriteFaultTells names files asked = DueFor names files asked (Done [])

-- What an answer tells of the files: that it was due; at a write fault, and where a trace is too long, what was due in its place; that a section
-- is too long where it is told; and why there is no snapshot.
abbrev pub TellsFor : HostNames → Files → Result Order UsageKind → Outcome → Type 0
TellsFor names files asked Memory = Unit {0}
TellsFor names files asked (Set (ReadFault at)) = Tries names files asked at
TellsFor names files asked WriteFault = WriteFaultTells names files asked
TellsFor names files asked (Merge fault) = MergeFaultTells names files asked fault
TellsFor names files asked (TooLong run) = TooLongTells names files asked run
TellsFor names files asked (Snap why) = SnapFaultTells names files asked why
TellsFor names files asked answer = DueFor names files asked answer

abbrev pub is_run : Outcome → Bool
is_run (Ran run) = true
is_run _ = false

abbrev pub is_board : Outcome → Bool
is_board (Board ran) = true
is_board _ = false

abbrev pub is_done : Outcome → Bool
is_done (Done runs) = true
is_done _ = false

-- the outcome whose place a write fault takes: a run where there is to be a trace, else Done
abbrev pub is_written : Result Order UsageKind → Outcome → Bool
is_written (Ok (order.Trace one o link steps out args)) due = is_run due
is_written asked due = is_done due

-- The answer is the outcome that is due, or it yields to a fault of the outside or to want of memory. A write fault takes the place of what is
-- written alone, a fault of what was merged that of Done, and so does a snapshot with too long a section, a trace that is too long that of a
-- run, and a read fault not that of Usage. What comes of runs isn't said here.
abbrev pub Yields : Result Order UsageKind → Outcome → Outcome → Type 0
Yields asked due Memory = Unit {0}
Yields asked due (Set (ReadFault at)) = (kind : UsageKind) → due ≢ Usage kind
Yields asked due WriteFault = is_written asked due ≡ true
Yields asked due (Merge fault) = is_done due ≡ true
Yields asked due (Ran run) = is_run due ≡ true
Yields asked due (Board ran) = is_board due ≡ true
Yields asked due (TooLong run) = is_run due ≡ true
Yields asked due (Done runs) = is_done due ≡ true
Yields asked due (Snap (snap.SectionSize id)) = is_done due ≡ true
Yields asked due answer = due ≡ answer

-- ---- completeness

-- no section of its merged module is too long, or there isn't too much of it
abbrev pub MayBeWritten : LinkedSet → Type 0
MayBeWritten L = HasNoLongSection L ⊎ (bulk L < 2 ^ 32)

-- the run came to an end, whether its trace is too long or not
abbrev pub is_traced : Outcome → Bool
is_traced (TooLong run) = true
is_traced answer = is_run answer

-- Where the command can be done over these files, and no read and nothing that it writes has failed, it is: merged where no section of its
-- merged module is too long, or there isn't too much of the set, listed, run whatever the devices did, generated and run: a generated set needs three pages; replayed where the trace is that of
-- a run; written as a snapshot where its start-up comes to the entry and there isn't too much of it then; or run in turns, where each of the
-- sets links. The numbers are the counts of the puts to the output that failed.
abbrev pub IsComplete : HostNames → Files → Result Order UsageKind → Outcome → FilesState → FilesState → ℕ → ℕ → Type 0
IsComplete names files (Err kind) answer old new before now = Unit {0}
IsComplete names files (Ok (order.Merge o link out)) answer old new before now =
    (merges : LinksAt names files (options_of o) (links.options_of link)) → MayBeWritten (linked names (links.options_of link) merges.set)
    → ¬ Rose old.read_faults new.read_faults → ¬ Rose old.write_faults new.write_faults → (answer ≡ Done []) ⊎ (answer ≡ Memory)
IsComplete names files (Ok (order.Run o link steps args)) answer old new before now =
    LinksAt names files (options_of o) (links.options_of link) → ¬ Rose old.read_faults new.read_faults → (is_run answer ≡ true) ⊎ (answer ≡ Memory)
IsComplete names files (Ok (order.Exec file steps args)) answer old new before now =
    OpensAt names files file → ¬ Rose old.read_faults new.read_faults → (is_run answer ≡ true) ⊎ (answer ≡ Memory)
IsComplete names files (Ok (order.Plan o link)) answer old new before now =
    LinksAt names files (options_of o) (links.options_of link) → ¬ Rose old.read_faults new.read_faults → ¬ Rose before now → (answer ≡ Done []) ⊎ (answer ≡ Memory)
IsComplete names files (Ok (order.Gen n pages steps)) answer old new before now = 0 < n → n ≤ 255 → 3 ≤ pages → ¬ Rose before now → (is_done answer ≡ true) ⊎ (answer ≡ Memory)
IsComplete names files (Ok (order.Trace one o link steps out args)) answer old new before now =
    (x : Origin) → IsProgram names files one (options_of o) (links.options_of link) x
    → ¬ Rose old.read_faults new.read_faults → ¬ Rose old.write_faults new.write_faults → (is_traced answer ≡ true) ⊎ (answer ≡ Memory)
IsComplete names files (Ok (order.Replay one trace o link steps)) answer old new before now =
    ReplayDue names files one trace (options_of o) (links.options_of link) steps (Done []) → ¬ Rose old.read_faults new.read_faults → (answer ≡ Done []) ⊎ (answer ≡ Memory)
IsComplete names files (Ok (order.Snap o link steps out)) answer old new before now =
    (starts : StartsUp names files (options_of o) (links.options_of link) steps)
    → amount (linked names (links.options_of link) starts.links.set) (state_after (linked names (links.options_of link) starts.links.set) starts.steps) < 2 ^ 32
    → ¬ Rose old.read_faults new.read_faults → ¬ Rose old.write_faults new.write_faults → (answer ≡ Done []) ⊎ (answer ≡ Memory)
IsComplete names files (Ok (order.Board mains link steps slice turns)) answer old new before now =
    AllLink names files mains (links.options_of link) → ¬ Rose old.read_faults new.read_faults → (is_board answer ≡ true) ⊎ (answer ≡ Memory)
