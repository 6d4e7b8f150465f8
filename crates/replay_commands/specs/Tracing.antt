-- What comes of `trace` and `replay`, step by step.
-- Cited by no clause of `serve`: what the parts of both promise.
-- Serves the contracts of this crate, which follow Traced of `dyl_commands`.
use Rattle.std.specs.Prelude.{◌≡◌, ◌⊎◌, ◌<◌, ◌≤◌, ◌^◌, ℕ, List, [], length, Bool, false, Some, IsSomeAnd, IfOk, IfErr, OnOk, Result, Ok, Err}
use Rattle.std.specs.Option.{ForSome}
use Rattle.std.specs.FinMap.{get, insert}
use Rattle.wasm_form.specs.declared.module.Module.{Module}
use Rattle.spec_hosts.specs.dyl_outside.Faults.{Rises}
use Rattle.spec_hosts.specs.dyl_outside.FileMap.{SameBut}
use Rattle.spec_hosts.specs.dyl_outside.Files.{FilesState}
use Rattle.spec_hosts.specs.declared.ran.Ran as ran
use Rattle.spec_hosts.specs.spec_runtime.Names.{HostNames}
use Rattle.spec_hosts.specs.Devices.{Devices, devices}
use Rattle.spec_loading.specs.spec_linking.LinkedSets.{LinkedSet}
use Rattle.spec_loading.specs.spec_execution.declared.fault.SingleFault.{SingleFault}
use Rattle.spec_loading.specs.spec_execution.declared.fault.SingleFault.TheVariants as single
use Rattle.spec_traces.specs.declared.trace.Trace.{Trace}
use Rattle.spec_traces.specs.declared.trace.TraceFault.TheVariants as fault
use Rattle.spec_traces.specs.Texts.{IsTextOf, BreaksAt}
use Rattle.spec_traces.specs.Traces.{Traces, IsTraceOf, IsAgreeing}
use Rattle.run_loaded.specs.Courses.{Origin, course_of}
use Rattle.replay_check.specs.Checks.{HasRun}
use Rattle.dyl_link.specs.host_table.declared.entry.HostTable.{HostTable}
use Rattle.host_calls.specs.Embedders.{names_of, embedder_of}
use Rattle.dyl_link.specs.dyl_search.declared.set.SetOptions.{SetOptions}
use Rattle.dyl_link.specs.declared.options.LinkOptions.{LinkOptions}
use Rattle.dyl_front.specs.declared.order.Order.TheVariants as order
use Rattle.dyl_front.specs.declared.outcome.Outcome.{Outcome}
use Rattle.dyl_front.specs.declared.outcome.Outcome.TheVariants.{Done, Ran, Set, Single, TooLong, WriteFault, Memory}
use Rattle.dyl_front.specs.declared.outcome.Outcome.TheVariants as outcome
use Rattle.dyl_commands.specs.OneFile.{most_run}
use Rattle.dyl_commands.specs.Traced.{IsShort, IsLong, OfTrace, TellsTrace}
use Rattle.dyl_commands.specs.Due.{is_run}
use Rattle.dyl_commands.specs.Causes.{TraceFileCause}
use Rattle.dyl_commands.specs.Counts.{Stays, StoresFor, FileCounts}
use Rattle.dyl_commands.specs.Runs.{guest_arguments}
use Rattle.dyl_commands.specs.Served.{Serves, StoreCounts, BeginsAsSet, BeginsAsModule, ExecutesSet, ExecutesModule}
use Rattle.dyl_commands.specs.Clauses.{OfParts}

-- ---- the trace of a run that was made

-- What begins so was run, as is told, and there is such a beginning. There are as many steps as can be counted.
pub record WasMade (Is : Origin → Type 0) (r : ran.Ran) : Type 0 where
  pub some : (x : Origin) × Is x
  pub runs : (x : Origin) → Is x → HasRun (course_of x) r
  pub steps : r.steps < 2 ^ 63

-- these bytes are the text of its trace
abbrev pub IsTextFor : (Origin → Type 0) → ran.Ran → List ℕ → Type 0
IsTextFor Is r text = (x : Origin) → Is x → (t : Trace) × IsTraceOf (course_of x) r t × IsTextOf text t

-- what each outcome of storing the text leaves of the files
abbrev pub StoresText : ran.Ran → List ℕ → List ℕ → Outcome → FilesState → FilesState → Type 0
StoresText r out text (Ran same) old new = (same ≡ r) × IsShort (length text) × ForSome old.told (λ files. new.told ≡ Some (insert files out text))
StoresText r out text (TooLong same) old new = (same ≡ r) × IsLong (length text) × (new ≡ old)
StoresText r out text WriteFault old new = IsShort (length text) × ForSome old.told (λ files. IsSomeAnd new.told (SameBut out files)) × Rises old.write_faults new.write_faults
StoresText r out text Memory old new = ForSome old.told (λ files. new.told ≡ Some files)
StoresText r out text _ old new = ⊥

-- and of storing the trace, which is made first
abbrev pub StoresTrace : (Origin → Type 0) → ran.Ran → List ℕ → Outcome → FilesState → FilesState → Type 0
StoresTrace Is r out answer old new =
    ((answer ≡ Memory) × (new ≡ old)) ⊎ ((text : List ℕ) × IsTextFor Is r text × StoresText r out text answer old new × StoreCounts (StoresFor answer) old new)

-- What comes of a run that does so to the devices, and of its trace.
abbrev pub TracesRun : (Outcome → Devices → Devices → Type 0) → (Origin → Type 0) → List ℕ → Outcome → FilesState → FilesState → Devices → Devices → Type 0
TracesRun Runs Is out answer old new begun now =
    ((r : ran.Ran) × Runs (Ran r) begun now × StoresTrace Is r out answer old new) ⊎ (Runs answer begun now × (is_run answer ≡ false) × (new ≡ old))

module _ {X : Type 0} {F : X → Type 0} {g : _} where
  -- what running a linked set, or a module that was read, and storing the trace does
  abbrev pub SetTraces : HostTable X F g → LinkedSet → List (List ℕ) → ℕ → List ℕ → Outcome → FilesState → FilesState → OfParts
  SetTraces host L args steps out answer old new i o e a input output errors ambient =
      TracesRun (ExecutesSet L (embedder_of (guest_arguments args) host) steps) (BeginsAsSet L) out answer old new (devices i o e a) (devices input output errors ambient)

  abbrev pub ModuleTraces : HostTable X F g → Module → List (List ℕ) → ℕ → List ℕ → Outcome → FilesState → FilesState → OfParts
  ModuleTraces host wasm args steps out answer old new i o e a input output errors ambient =
      TracesRun (ExecutesModule wasm (embedder_of (guest_arguments args) host) steps) (BeginsAsModule wasm (names_of host)) out answer old new (devices i o e a) (devices input output errors ambient)

-- ---- a trace that is replayed

-- the trace that bytes are the text of, or the outcome where they are none
abbrev pub ReadsTrace : List ℕ → Result Trace Outcome → Type 0
ReadsTrace bytes (Ok t) = IsTextOf bytes t
ReadsTrace bytes (Err (outcome.Trace (fault.Line line))) = BreaksAt bytes line
ReadsTrace bytes (Err Memory) = Unit {0}
ReadsTrace bytes (Err _) = ⊥

-- why there is no trace, whatever the files tell
abbrev pub NoTraceCause : List ℕ → Outcome → FilesState → FilesState → Type 0
NoTraceCause path (Set fault) old new = TraceFileCause path fault old new
NoTraceCause path (outcome.Trace (fault.Line line)) old new = Unit {0}
NoTraceCause path Memory old new = Unit {0}
NoTraceCause path _ old new = ⊥

-- some bytes are its text, no more than may be
pub record IsTextOfSome (t : Trace) : Type 0 where
  pub bytes : List ℕ
  pub few : length bytes ≤ most_run
  pub text : IsTextOf bytes t

-- What comes of reading the trace at a path: what there is to say of it where the files are told; and, whatever they tell, a trace of which some
-- bytes are the text, or an outcome that has its cause.
pub record FindsTrace (path : List ℕ) (result : Result Trace Outcome) (old new : FilesState) : Type 0 where
  pub tells : ForSome old.told (λ told. TellsTrace (get told) path result)
  pub text : IfOk result IsTextOfSome
  pub caused : IfErr result (λ answer. NoTraceCause path answer old new)
  pub files : new.told ≡ old.told
  pub same : OnOk result (new ≡ old)
  pub counts : IfErr result (λ answer. FileCounts Stays answer old new)

-- The outcome of checking a trace of at most so many steps, by what begins so, or by why it isn't opened.
abbrev pub ChecksTo : (Origin → Type 0) → (SingleFault → Type 0) → Trace → ℕ → Outcome → Type 0
ChecksTo Is IsRefused t most (Done []) = (t.steps ≤ most) × (x : Origin) × Is x × Traces (course_of x) t
ChecksTo Is IsRefused t most (outcome.Trace fault.Steps) = most < t.steps
ChecksTo Is IsRefused t most (outcome.Trace (fault.Differs call)) =
    (t.steps ≤ most) × (x : Origin) × Is x × IsAgreeing (course_of x) t call × (Traces (course_of x) t → ⊥)
ChecksTo Is IsRefused t most (Single single.Memory) = ⊥
ChecksTo Is IsRefused t most (Single why) = (t.steps ≤ most) × IsRefused why
ChecksTo Is IsRefused t most Memory = Unit {0}
ChecksTo Is IsRefused t most _ = ⊥

-- What comes of a trace that was read, from whatever path.
abbrev pub Replays : HostNames → Bool → SetOptions → LinkOptions → ℕ → Trace → Outcome → FilesState → FilesState → Type 0
Replays names one o link steps t answer old new =
    (path : List ℕ) (before now : ℕ) → ForSome old.told (λ told. OfTrace (get told) path (Ok t)) → Serves names (Ok (order.Replay one path o link steps)) answer old new before now
