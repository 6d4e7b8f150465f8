-- When an answer may come, whatever the files tell.
-- Cited by the clauses `caused` and `inner` of `serve`.
-- This profile: docs/FORMATS.md, "How it ends".
use Rattle.std.specs.Prelude.{◌≡◌, ◌⊎◌, List, [], ℕ, Bool, true, false, Result, Ok, Err}
use Rattle.spec_reading.specs.spec_binary.declared.fault.DecodeFault.TheVariants as decode
use Rattle.spec_loading.specs.spec_validation.declared.fault.CheckFault.TheVariants as check
use Rattle.spec_loading.specs.spec_execution.declared.fault.SingleFault.TheVariants as single
use Rattle.spec_loading.specs.spec_linking.declared.fault.RecordFault.TheVariants as record_fault
use Rattle.spec_loading.specs.spec_linking.declared.fault.LinkFault.{LinkFault}
use Rattle.spec_loading.specs.spec_linking.declared.fault.LinkFault.TheVariants as link
use Rattle.spec_loading.specs.spec_linking.declared.fault.SetFault.{SetFault}
use Rattle.spec_loading.specs.spec_linking.declared.fault.SetFault.TheVariants as set
use Rattle.spec_loading.specs.spec_linking.Sets.{main_name}
use Rattle.spec_hosts.specs.spec_runtime.Names.{HostNames}
use Rattle.spec_merging.specs.declared.fault.MergeFault.TheVariants as merge
use Rattle.spec_snapshots.specs.declared.fault.SnapFault.TheVariants as snap
use Rattle.spec_traces.specs.declared.trace.TraceFault.{TraceFault}
use Rattle.spec_traces.specs.declared.trace.TraceFault.TheVariants as trace
use Rattle.spec_hosts.specs.declared.ran.Ran as ran
use Rattle.dyl_gen.specs.declared.fault.GenFault.{GenFault}
use Rattle.dyl_gen.specs.declared.fault.GenFault.TheVariants as gen
use Rattle.spec_hosts.specs.dyl_outside.Faults.{Rises, RisesByOne}
use Rattle.spec_hosts.specs.dyl_outside.Files.{FilesState}
use Rattle.dyl_front.specs.declared.outcome.UsageKind.{UsageKind}
use Rattle.dyl_front.specs.declared.outcome.Outcome.{Outcome}
use Rattle.dyl_front.specs.declared.outcome.Outcome.TheVariants.{Done, Ran, Board, Usage, Set, Link, Merge, Single, Gen, Trace, TooLong, Snap, WriteFault, Memory}
use Rattle.dyl_front.specs.declared.order.Order.{Order}
use Rattle.dyl_front.specs.declared.order.Order.TheVariants as order
use Rattle.dyl_commands.specs.Generated.{GenDue}

-- a fault of a set comes with what the files counted
abbrev pub SetCause : SetFault → FilesState → FilesState → Type 0
SetCause (set.Missing name) old new = Rises old.absents new.absents
SetCause (set.ReadFault path) old new = Rises old.read_faults new.read_faults
SetCause fault old new = Unit {0}

-- a fault of the one file at a path, which is module 0
abbrev pub FileCause : List ℕ → SetFault → FilesState → FilesState → Type 0
FileCause path (set.Missing name) old new = (name ≡ main_name path) × RisesByOne old.absents new.absents
FileCause path (set.ReadFault at) old new = (at ≡ path) × Rises old.read_faults new.read_faults
FileCause path (set.Decode member fault) old new = member ≡ 0
FileCause path (set.Record member fault) old new = ⊥
FileCause path (set.Check member fault) old new = member ≡ 0
FileCause path set.ModuleCount old new = ⊥
FileCause path fault old new = Unit {0}

-- a fault of a set, or with `--one` of the file at this path
abbrev pub ProgramCause : Bool → List ℕ → SetFault → FilesState → FilesState → Type 0
ProgramCause false path fault old new = SetCause fault old new
ProgramCause true path fault old new = FileCause path fault old new

-- a fault of the file of a trace
abbrev pub TraceFileCause : List ℕ → SetFault → FilesState → FilesState → Type 0
TraceFileCause path (set.Missing name) old new = (name ≡ main_name path) × RisesByOne old.absents new.absents
TraceFileCause path (set.ReadFault at) old new = (at ≡ path) × Rises old.read_faults new.read_faults
TraceFileCause path set.SetSize old new = Unit {0}
TraceFileCause path _ old new = ⊥

-- of a set, or of the one file that is run; of the file of a trace, or of the program that it is checked against; a generated set has none
abbrev pub FaultCause : Order → SetFault → FilesState → FilesState → Type 0
FaultCause (order.Exec file steps args) fault old new = FileCause file fault old new
FaultCause (order.Gen n pages steps) fault old new = ⊥
FaultCause (order.Trace one o l steps out args) fault old new = ProgramCause one o.main fault old new
FaultCause (order.Replay one path o l steps) fault old new = TraceFileCause path fault old new ⊎ ProgramCause one o.main fault old new
FaultCause _ fault old new = SetCause fault old new

-- what a command writes couldn't be written: the output of a merge, a trace, a snapshot, a listing, or the summary of a generated set
abbrev pub WriteCause : Order → FilesState → FilesState → ℕ → ℕ → Type 0
WriteCause (order.Merge o l out) old new before now = Rises old.write_faults new.write_faults
WriteCause (order.Plan o l) old new before now = Rises before now
WriteCause (order.Gen n pages steps) old new before now = Rises before now
WriteCause (order.Trace one o l steps out args) old new before now = Rises old.write_faults new.write_faults
WriteCause (order.Snap o l steps out) old new before now = Rises old.write_faults new.write_faults
WriteCause _ old new before now = ⊥

-- what is run ends as a run does, and isn't done; what is done otherwise has no runs, but a generated set
abbrev pub DoneCause : Order → List ran.Ran → Type 0
DoneCause (order.Gen n pages steps) runs = Unit {0}
DoneCause (order.Run o l steps args) runs = ⊥
DoneCause (order.Exec file steps args) runs = ⊥
DoneCause (order.Trace one o l steps out args) runs = ⊥
DoneCause (order.Board mains l steps slice turns) runs = ⊥
DoneCause _ runs = runs ≡ []

-- a generated set has at most too few pages, whatever files there are, and nothing is linked for the one file that is run
abbrev pub LinkCause : HostNames → Order → LinkFault → Type 0
LinkCause names (order.Gen n pages steps) fault = GenDue names n pages (Link fault)
LinkCause names (order.Exec file steps args) fault = ⊥
LinkCause names (order.Trace true o l steps out args) fault = ⊥
LinkCause names (order.Replay true path o l steps) fault = ⊥
LinkCause names _ fault = Unit {0}

-- only for a generated set is there a number of members
abbrev pub GenCause : HostNames → Order → GenFault → Type 0
GenCause names (order.Gen n pages steps) fault = GenDue names n pages (Gen fault)
GenCause names _ fault = ⊥

-- only there is a trace written
abbrev pub IsTraceOrder : Order → Type 0
IsTraceOrder (order.Trace one o l steps out args) = Unit {0}
IsTraceOrder _ = ⊥

-- only a set or a file is run
abbrev pub IsRunOrder : Order → Type 0
IsRunOrder (order.Run o l steps args) = Unit {0}
IsRunOrder (order.Exec file steps args) = Unit {0}
IsRunOrder (order.Trace one o l steps out args) = Unit {0}
IsRunOrder _ = ⊥

-- only several sets are run in turns
abbrev pub IsBoardOrder : Order → Type 0
IsBoardOrder (order.Board mains l steps slice turns) = Unit {0}
IsBoardOrder _ = ⊥

-- only such a file may be refused as it is opened
abbrev pub IsOneOrder : Order → Type 0
IsOneOrder (order.Exec file steps args) = Unit {0}
IsOneOrder (order.Trace true o l steps out args) = Unit {0}
IsOneOrder (order.Replay true path o l steps) = Unit {0}
IsOneOrder _ = ⊥

-- only what is replayed is no trace, or that of no run; that a module isn't opened, or want of memory, is an outcome of its own
abbrev pub TraceCause : Order → TraceFault → Type 0
TraceCause (order.Replay one path o l steps) (trace.Single fault) = ⊥
TraceCause (order.Replay one path o l steps) trace.Memory = ⊥
TraceCause (order.Replay one path o l steps) fault = Unit {0}
TraceCause _ fault = ⊥

-- only what was merged can have too long a section
abbrev pub IsMergeOrder : Order → Type 0
IsMergeOrder (order.Merge o l out) = Unit {0}
IsMergeOrder _ = ⊥

-- only where a snapshot is asked for is there none
abbrev pub IsSnapOrder : Order → Type 0
IsSnapOrder (order.Snap o l steps out) = Unit {0}
IsSnapOrder _ = ⊥

-- What an answer to what is asked says of the files before and after, and of the counts of the puts to the output that failed, where these
-- host functions are declared.
abbrev pub Caused : HostNames → Result Order UsageKind → Outcome → FilesState → FilesState → ℕ → ℕ → Type 0
Caused names (Err kind) answer old new before now = (answer ≡ Usage kind) ⊎ (answer ≡ Memory)
Caused names (Ok order) (Usage kind) old new before now = ⊥
Caused names (Ok order) (Done runs) old new before now = DoneCause order runs
Caused names (Ok order) (Ran ran) old new before now = IsRunOrder order
Caused names (Ok order) (Board ran) old new before now = IsBoardOrder order
Caused names (Ok order) (Set fault) old new before now = FaultCause order fault old new
Caused names (Ok order) (Link fault) old new before now = LinkCause names order fault
Caused names (Ok order) (Merge fault) old new before now = IsMergeOrder order
Caused names (Ok order) (Single fault) old new before now = IsOneOrder order
Caused names (Ok order) (Gen fault) old new before now = GenCause names order fault
Caused names (Ok order) (Trace fault) old new before now = TraceCause order fault
Caused names (Ok order) (TooLong ran) old new before now = IsTraceOrder order
Caused names (Ok order) (Snap why) old new before now = IsSnapOrder order
Caused names (Ok order) WriteFault old new before now = WriteCause order old new before now
Caused names (Ok order) Memory old new before now = Unit {0}

-- ---- want of memory is answered as such, and within no other outcome

abbrev pub wants_inside : SetFault → Bool
wants_inside (set.Decode member decode.Memory) = true
wants_inside (set.Record member record_fault.Memory) = true
wants_inside (set.Check member check.Memory) = true
wants_inside fault = false

abbrev pub has_inner_memory : Outcome → Bool
has_inner_memory (Set set.Memory) = true
has_inner_memory (Set fault) = wants_inside fault
has_inner_memory (Link link.Memory) = true
has_inner_memory (Merge merge.Memory) = true
has_inner_memory (Single single.Memory) = true
has_inner_memory (Gen gen.Memory) = true
has_inner_memory (Trace trace.Memory) = true
has_inner_memory (Trace (trace.Single single.Memory)) = true
has_inner_memory (Snap snap.Memory) = true
has_inner_memory answer = false
