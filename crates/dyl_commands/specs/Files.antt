-- What an answer leaves of the files.
-- Cited by the clause `files` of `serve`.
-- This profile: docs/FORMATS.md, "How it ends".
use Rattle.std.specs.Prelude.{◌≡◌, ◌⊎◌, ◌≤◌, ℕ, List, length, Bool, Some, Result, Ok, IsSomeAnd}
use Rattle.std.specs.FinMap.{get, insert}
use Rattle.spec_hosts.specs.dyl_outside.Faults.{Rose}
use Rattle.spec_hosts.specs.dyl_outside.FileMap.{FileMap, SameBut}
use Rattle.spec_hosts.specs.dyl_outside.Files.{FilesState}
use Rattle.spec_hosts.specs.spec_runtime.Names.{HostNames}
use Rattle.spec_hosts.specs.spec_runtime.Courses.{Course}
use Rattle.spec_loading.specs.spec_linking.Sets.{ClosedSet, SetOptions}
use Rattle.spec_loading.specs.spec_linking.Gathering.{IsGathered}
use Rattle.spec_loading.specs.spec_linking.Plans.{LinkOptions}
use Rattle.spec_loading.specs.spec_linking.Links.{Links}
use Rattle.spec_reading.specs.spec_binary.DecodeAnswers.{DecodeAnswer}
use Rattle.spec_loading.specs.Merged.{Merged}
use Rattle.spec_snapshots.specs.Causes.{Takes, IsFirst, state_after}
use Rattle.snap_merge.specs.Answers.{Snapped}
use Rattle.merge_whole.specs.Merges.{HasShape, AreShortestFor, most_bytes}
use Rattle.spec_traces.specs.declared.trace.Trace.{Trace}
use Rattle.spec_traces.specs.Texts.{IsTextOf}
use Rattle.spec_traces.specs.Traces.{Traces, IsTraceOf}
use Rattle.run_loaded.specs.Courses.{Origin, course_of}
use Rattle.dyl_link.specs.dyl_search.Gathers.{options_of}
use Rattle.dyl_link.specs.Sets as links
use Rattle.dyl_front.specs.declared.outcome.UsageKind.{UsageKind}
use Rattle.dyl_front.specs.declared.outcome.Outcome.{Outcome}
use Rattle.dyl_front.specs.declared.outcome.Outcome.TheVariants.{Done, Ran, WriteFault, Memory}
use Rattle.dyl_front.specs.declared.order.Order.{Order}
use Rattle.dyl_front.specs.declared.order.Order.TheVariants as order
use Rattle.dyl_commands.specs.Linking.{linked}
use Rattle.dyl_commands.specs.Traced.{IsProgram}

-- The set is gathered from the files and links, and the path of the output holds bytes that merge it: the module that they spell has the shape
-- of a merged one, and is what they are decoded to; no bytes are shorter, so that a set has the same bytes each time (Laws); and how many they
-- are is in line with the set. Every other path is as it was.
pub record IsMerged (names : HostNames) (o : SetOptions) (link : LinkOptions) (out : List ℕ) (files after : FileMap) : Type 0 where
  pub set : ClosedSet
  pub gathered : IsGathered (get files) o (Ok set)
  pub links : Links (linked names link set)
  pub output : List ℕ
  pub merged : Merged (linked names link set) output
  pub shape : HasShape (linked names link set) merged.wasm
  pub decoded : DecodeAnswer output (Ok merged.wasm)
  pub shortest : AreShortestFor (linked names link set) output
  pub size : length output ≤ most_bytes (linked names link set)
  pub written : after ≡ insert files out output

-- The set is gathered from the files and links, and the path of the output holds bytes that are a snapshot of it, as it stands where its entry
-- has just been called, after at most so many steps. Every other path is as it was.
pub record IsSnapped (names : HostNames) (o : SetOptions) (link : LinkOptions) (most : ℕ) (out : List ℕ) (files after : FileMap) : Type 0 where
  pub set : ClosedSet
  pub gathered : IsGathered (get files) o (Ok set)
  pub links : Links (linked names link set)
  pub steps : ℕ
  pub first : IsFirst (linked names link set) most steps Takes
  pub output : List ℕ
  pub snapped : Snapped (linked names link set) output (state_after (linked names link set) steps)
  pub written : after ≡ insert files out output

-- What an answer leaves of these files where what is written is so. After a write fault the path of the output may hold anything.
abbrev pub OutputLeaves : (FileMap → FileMap → Type 0) → List ℕ → FileMap → Outcome → FilesState → FilesState → Type 0
OutputLeaves IsWritten out files (Done runs) old new = IsSomeAnd new.told (IsWritten files)
OutputLeaves IsWritten out files WriteFault old new = IsSomeAnd new.told (SameBut out files)
OutputLeaves IsWritten out files Memory old new = (new.told ≡ Some files) ⊎ (Rose old.write_faults new.write_faults × IsSomeAnd new.told (SameBut out files))
OutputLeaves IsWritten out files answer old new = new.told ≡ Some files

-- The path of the output holds the text of a trace, of which this is so by the run of the program that the files give. Every other path is as it
-- was.
pub record IsTraced (names : HostNames) (one : Bool) (o : SetOptions) (link : LinkOptions) (out : List ℕ) (Of : Course → Trace → Type 0) (files after : FileMap) : Type 0 where
  pub program : Origin
  pub gives : IsProgram names (get files) one o link program
  pub trace : Trace
  pub is : Of (course_of program) trace
  pub text : List ℕ
  pub of_trace : IsTextOf text trace
  pub written : after ≡ insert files out text

-- What an answer of tracing leaves of these files. After a write fault the path of the output may hold anything. Memory may be wanting once the
-- trace is written: for the line that tells how the run ended.
abbrev pub TraceLeaves : HostNames → Bool → SetOptions → LinkOptions → List ℕ → FileMap → Outcome → FilesState → FilesState → Type 0
TraceLeaves names one o link out files (Ran r) old new = IsSomeAnd new.told (IsTraced names one o link out (λ C t. IsTraceOf C r t) files)
TraceLeaves names one o link out files WriteFault old new = IsSomeAnd new.told (SameBut out files)
TraceLeaves names one o link out files Memory old new =
    (new.told ≡ Some files) ⊎ (IsSomeAnd new.told (IsTraced names one o link out Traces files) ⊎ (Rose old.write_faults new.write_faults × IsSomeAnd new.told (SameBut out files)))
TraceLeaves names one o link out files answer old new = new.told ≡ Some files

-- only merging, tracing and writing a snapshot change a file
abbrev pub LeavesFor : HostNames → Result Order UsageKind → FileMap → Outcome → FilesState → FilesState → Type 0
LeavesFor names (Ok (order.Merge o link out)) files answer old new = OutputLeaves (IsMerged names (options_of o) (links.options_of link) out) out files answer old new
LeavesFor names (Ok (order.Trace one o link steps out args)) files answer old new = TraceLeaves names one (options_of o) (links.options_of link) out files answer old new
LeavesFor names (Ok (order.Snap o link steps out)) files answer old new = OutputLeaves (IsSnapped names (options_of o) (links.options_of link) steps out) out files answer old new
LeavesFor names _ files answer old new = new.told ≡ Some files
