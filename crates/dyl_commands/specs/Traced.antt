-- What there is to say of the file of a trace, of the program that is run, and of both: that the run is that of the trace, or why it isn't.
-- Cited by every clause of `serve` that speaks of `trace` or `replay`.
-- This profile: docs/FORMATS.md, "The trace".
use Rattle.std.specs.Prelude.{◌≡◌, ◌⊎◌, ◌<◌, ◌≤◌, ℕ, List, [], length, Bool, true, false, None, IsSomeAnd, Result, Ok, Err}
use Rattle.wasm_form.specs.declared.module.Module.{Module}
use Rattle.spec_hosts.specs.declared.ran.Ran as ran
use Rattle.spec_hosts.specs.spec_runtime.Names.{HostNames}
use Rattle.spec_hosts.specs.spec_runtime.Courses.{Course}
use Rattle.spec_loading.specs.spec_execution.declared.fault.SingleFault.{SingleFault}
use Rattle.spec_loading.specs.spec_execution.OneModule.{module_opening}
use Rattle.spec_loading.specs.spec_linking.declared.fault.SetFault.TheVariants.{Missing, ReadFault, SetSize}
use Rattle.spec_loading.specs.spec_linking.Sets.{Files, SetOptions, main_name}
use Rattle.spec_loading.specs.spec_linking.Gathering as gathering
use Rattle.spec_loading.specs.spec_linking.Gathering.{IsGathered}
use Rattle.spec_loading.specs.spec_linking.Plans.{LinkOptions}
use Rattle.spec_loading.specs.spec_linking.Links.{Links}
use Rattle.spec_traces.specs.declared.trace.Trace.{Trace}
use Rattle.spec_traces.specs.declared.trace.TraceFault.TheVariants.{Line, Steps, Differs}
use Rattle.spec_traces.specs.Texts.{trace_text, IsTextOf, BreaksAt}
use Rattle.spec_traces.specs.Traces.{Traces, IsTraceOf, IsAgreeing}
use Rattle.run_loaded.specs.Courses.{Origin, OfModule, OfSet, course_of}
use Rattle.dyl_front.specs.declared.outcome.Outcome.{Outcome}
use Rattle.dyl_front.specs.declared.outcome.Outcome.TheVariants as outcome
use Rattle.dyl_commands.specs.OneFile.{most_run, OfFile, IsRefusedAt}
use Rattle.dyl_commands.specs.Linking.{LinksAt, FaultDue}

-- ---- the program: a set, or with `--one` the module at the path of MAIN

-- what is run: the set that is gathered from the files and links, or the module from its opening state
abbrev pub IsProgram : HostNames → Files → Bool → SetOptions → LinkOptions → Origin → Type 0
IsProgram names files false o link (OfSet L) = (L.names ≡ names) × (L.options ≡ link) × IsGathered files o (Ok L.set) × Links L
IsProgram names files true o link (OfModule wasm opening) = OfFile files o.main (Ok wasm) × (module_opening wasm names ≡ Ok opening)
IsProgram names files _ o link _ = ⊥

-- the set links, or the file has a valid module
abbrev pub IsLoaded : HostNames → Files → Bool → SetOptions → LinkOptions → Type 0
IsLoaded names files false o link = LinksAt names files o link
IsLoaded names files true o link = (wasm : Module) × OfFile files o.main (Ok wasm)

-- what is due where it isn't so
abbrev pub LoadFault : HostNames → Files → Bool → SetOptions → LinkOptions → Outcome → Type 0
LoadFault names files false o link due = FaultDue names files o link due
LoadFault names files true o link (outcome.Set fault) = OfFile files o.main (Err fault)
LoadFault names files true o link _ = ⊥

-- why the module doesn't open
abbrev pub OpenFault : HostNames → Files → Bool → SetOptions → SingleFault → Type 0
OpenFault names files false o fault = ⊥
OpenFault names files true o fault = IsRefusedAt names files o.main fault

-- a path at which a file of it is sought
abbrev pub ProgramTries : Files → Bool → SetOptions → List ℕ → Type 0
ProgramTries files false o path = gathering.Tries files o path
ProgramTries files true o path = path ≡ o.main

-- ---- the text of a run's trace

-- it has so many bytes
abbrev pub HasText : (ℕ → Type 0) → Course → ran.Ran → Type 0
HasText Size C r = (t : Trace) × IsTraceOf C r t × Size (length (trace_text t))

-- so many are stored, and no more
abbrev pub IsShort : ℕ → Type 0
IsShort size = size ≤ most_run

abbrev pub IsLong : ℕ → Type 0
IsLong size = most_run < size

-- ---- the trace that is replayed

-- What there is to say of the file at a path: the trace that it is the text of, or what is due as it is none.
abbrev pub OfTrace : Files → List ℕ → Result Trace Outcome → Type 0
OfTrace files path (Ok t) = IsSomeAnd (files path) (λ bytes. (length bytes ≤ most_run) × IsTextOf bytes t)
OfTrace files path (Err (outcome.Set (Missing name))) = (files path ≡ None) × (name ≡ main_name path)
OfTrace files path (Err (outcome.Set SetSize)) = IsSomeAnd (files path) (λ bytes. most_run < length bytes)
OfTrace files path (Err (outcome.Trace (Line line))) = IsSomeAnd (files path) (λ bytes. (length bytes ≤ most_run) × BreaksAt bytes line)
OfTrace files path (Err _) = ⊥

-- What may be answered in place of it: a read fault, which names the path, or want of memory.
abbrev pub TellsTrace : Files → List ℕ → Result Trace Outcome → Type 0
TellsTrace files path (Err (outcome.Set (ReadFault at))) = at ≡ path
TellsTrace files path (Err outcome.Memory) = Unit {0}
TellsTrace files path said = OfTrace files path said

-- What is due for a trace, in this order: what keeps the program from being loaded, more steps than these, why it doesn't open, and whether its
-- run is that of the trace, or with how many of the calls it agrees.
abbrev pub CheckDue : HostNames → Files → Bool → SetOptions → LinkOptions → ℕ → Trace → Outcome → Type 0
CheckDue names files one o link most t (outcome.Trace Steps) = IsLoaded names files one o link × (most < t.steps)
CheckDue names files one o link most t (outcome.Single fault) = (t.steps ≤ most) × OpenFault names files one o fault
CheckDue names files one o link most t (outcome.Trace (Differs call)) =
    (t.steps ≤ most) × ((x : Origin) × IsProgram names files one o link x × IsAgreeing (course_of x) t call × (Traces (course_of x) t → ⊥))
CheckDue names files one o link most t (outcome.Done []) = (t.steps ≤ most) × ((x : Origin) × IsProgram names files one o link x × Traces (course_of x) t)
CheckDue names files one o link most t due = LoadFault names files one o link due

-- The trace is read first.
abbrev pub ReplayDue : HostNames → Files → Bool → List ℕ → SetOptions → LinkOptions → ℕ → Outcome → Type 0
ReplayDue names files one path o link most due = OfTrace files path (Err due) ⊎ ((t : Trace) × OfTrace files path (Ok t) × CheckDue names files one o link most t due)
