-- What is so of the counts of the files, for a trace that is stored or replayed.
use Rattle.std.proofs.Common.{◌≡◌, ℕ, List, [], Bool, false, Ok, Err, refl, sym, ap, subst, inl, inr}
use Rattle.wasm_form.specs.declared.module.Module.{Module}
use Rattle.spec_hosts.specs.dyl_outside.Files.{FilesState}
use Rattle.spec_hosts.specs.declared.ran.Ran as ran
use Rattle.spec_hosts.specs.Devices.{Devices}
use Rattle.spec_hosts.specs.Hosted.{Embedder}
use Rattle.spec_hosts.specs.spec_runtime.Names.{HostNames}
use Rattle.spec_loading.specs.spec_linking.Sets.{SetOptions}
use Rattle.spec_loading.specs.spec_linking.Plans.{LinkOptions}
use Rattle.spec_loading.specs.spec_execution.declared.fault.SingleFault.{SingleFault}
use Rattle.spec_loading.specs.spec_linking.declared.fault.SetFault.{SetFault}
use Rattle.spec_loading.specs.spec_linking.declared.fault.SetFault.TheVariants as set
use Rattle.spec_loading.specs.spec_linking.LinkedSets.{LinkedSet}
use Rattle.spec_traces.specs.declared.trace.Trace.{Trace}
use Rattle.run_loaded.specs.Courses.{Origin}
use Rattle.dyl_front.specs.declared.outcome.Outcome.{Outcome}
use Rattle.dyl_front.specs.declared.outcome.Outcome.TheVariants.{Done, Ran, Single, TooLong, WriteFault, Memory}
use Rattle.dyl_front.specs.declared.outcome.Outcome.TheVariants as outcome
use Rattle.dyl_commands.specs.Counts.{Stays, ReadsFor, StoresFor, AbsentsOfFile, SetCounts, FileCounts, ProgramCounts}
use Rattle.dyl_commands.specs.Fetched.{ReadsFile}
use Rattle.replay_commands.specs.Tracing.{StoresText, StoresTrace, TracesRun, ChecksTo}
use Rattle.dyl_commands.specs.Served.{Gets, StoreCounts, ExecutesSet, ExecutesModule, set_outcome}
use Rattle.dyl_commands.proofs.Counting.{at_least, got_counts, read_counts, then_stored, is_set_fault}

-- ---- no fault of a set comes after the program is read

checked_no_fault : (Is : Origin → Type 0) (Refused : SingleFault → Type 0) (t : Trace) (steps : ℕ) (answer : Outcome) → ChecksTo Is Refused t steps answer → is_set_fault answer ≡ false
checked_no_fault Is Refused t steps (Done []) h = refl
checked_no_fault Is Refused t steps (outcome.Trace fault) h = refl
checked_no_fault Is Refused t steps (Single why) h = refl
checked_no_fault Is Refused t steps Memory h = refl
checked_no_fault Is Refused t steps _ h = absurd h

text_no_fault : (r : ran.Ran) (out text : List ℕ) (answer : Outcome) (old new : FilesState) → StoresText r out text answer old new → is_set_fault answer ≡ false
text_no_fault r out text (Ran same) old new h = refl
text_no_fault r out text (TooLong same) old new h = refl
text_no_fault r out text WriteFault old new h = refl
text_no_fault r out text Memory old new h = refl
text_no_fault r out text _ old new h = absurd h

stored_no_fault : (Is : Origin → Type 0) (r : ran.Ran) (out : List ℕ) (answer : Outcome) (old new : FilesState) → StoresTrace Is r out answer old new → is_set_fault answer ≡ false
stored_no_fault Is r out answer old new (inl none) = ap is_set_fault none.0
stored_no_fault Is r out answer old new (inr stored) = text_no_fault r out stored.0 answer old new stored.2

-- ---- a trace that is stored

then_stored_file : (answer : Outcome) (old mid new : FilesState) → FileCounts Stays answer old mid → StoreCounts (StoresFor answer) mid new → FileCounts (StoresFor answer) answer old new
then_stored_file answer old mid new h s = record {
  reads = subst (λ n. ReadsFor answer old.read_faults n) (sym s.reads) h.reads;
  stores = subst (λ n. StoresFor answer n new.write_faults) h.stores s.stores;
  absents = subst (λ n. AbsentsOfFile answer old.absents n) (sym s.absents) h.absents;
}

-- nothing is stored for want of memory
lost_counts : (answer : Outcome) (old new : FilesState) → answer ≡ Memory → new ≡ old → StoreCounts (StoresFor answer) old new
lost_counts answer old new is same =
    subst (λ a. StoreCounts (StoresFor a) old new) (sym is)
    (subst (λ s. StoreCounts (StoresFor Memory) old s) (sym same) (record { reads = refl; stores = at_least old.write_faults old.write_faults refl; absents = refl }))

stored_counts : (Is : Origin → Type 0) (r : ran.Ran) (out : List ℕ) (answer : Outcome) (old new : FilesState) → StoresTrace Is r out answer old new → StoreCounts (StoresFor answer) old new
stored_counts Is r out answer old new (inl none) = lost_counts answer old new none.0 none.1
stored_counts Is r out answer old new (inr stored) = stored.3

module _ (o : SetOptions) (l : LinkOptions) (names : HostNames) (L : LinkedSet) (old mid new : FilesState) (gets : Gets names o l (Ok L) old mid) (E : Embedder) (steps : ℕ) (Is : Origin → Type 0) (out : List ℕ) (begun now : Devices) where
  pub set_trace_counts : (answer : Outcome) → TracesRun (ExecutesSet L E steps) Is out answer mid new begun now → SetCounts (StoresFor answer) o answer old new
  set_trace_counts answer (inl h) =
      then_stored o answer old mid new (got_counts names o l L old mid gets answer (stored_no_fault Is h.0 out answer mid new h.2)) (stored_counts Is h.0 out answer mid new h.2)
  set_trace_counts Memory (inr h) = then_stored o Memory old mid new (got_counts names o l L old mid gets Memory refl) (lost_counts Memory mid new refl h.2)
  set_trace_counts (Ran r) (inr h) = absurd (let ran = h.1 in cc)
  set_trace_counts _ (inr h) = absurd h.0

module _ (path : List ℕ) (old mid new : FilesState) (wasm : Module) (read : ReadsFile path (Ok wasm) old mid) (E : Embedder) (steps : ℕ) (Is : Origin → Type 0) (out : List ℕ) (begun now : Devices) where
  pub module_trace_counts : (answer : Outcome) → TracesRun (ExecutesModule wasm E steps) Is out answer mid new begun now → FileCounts (StoresFor answer) answer old new
  module_trace_counts answer (inl h) =
      then_stored_file answer old mid new (read_counts path old mid wasm read answer (stored_no_fault Is h.0 out answer mid new h.2)) (stored_counts Is h.0 out answer mid new h.2)
  module_trace_counts Memory (inr h) = then_stored_file Memory old mid new (read_counts path old mid wasm read Memory refl) (lost_counts Memory mid new refl h.2)
  module_trace_counts (Ran r) (inr h) = absurd (let ran = h.1 in cc)
  module_trace_counts (Single fault) (inr h) =
      then_stored_file (Single fault) old mid new (read_counts path old mid wasm read (Single fault) refl)
      (subst (λ s. StoreCounts (StoresFor (Single fault)) mid s) (sym h.2) (record { reads = refl; stores = refl; absents = refl }))
  module_trace_counts _ (inr h) = absurd h.0

-- where none is read
pub file_trace_counts : (path : List ℕ) (fault : SetFault) (old new : FilesState) → ReadsFile path (Err fault) old new → FileCounts (StoresFor (set_outcome fault)) (set_outcome fault) old new
file_trace_counts path set.Memory old new h = record { reads = h.reads; stores = at_least old.write_faults new.write_faults h.writes; absents = h.absents }
file_trace_counts path fault old new h = record { reads = h.reads; stores = h.writes; absents = h.absents }

-- ---- a trace that is replayed

pub set_replay_counts : (names : HostNames) (o : SetOptions) (l : LinkOptions) (L : LinkedSet) (old new : FilesState) → Gets names o l (Ok L) old new → (Is : Origin → Type 0) (Refused : SingleFault → Type 0) (t : Trace) (steps : ℕ) (answer : Outcome)
    → ChecksTo Is Refused t steps answer → SetCounts Stays o answer old new
set_replay_counts names o l L old new gets Is Refused t steps answer h = got_counts names o l L old new gets answer (checked_no_fault Is Refused t steps answer h)

pub module_replay_counts : (path : List ℕ) (old new : FilesState) (wasm : Module) → ReadsFile path (Ok wasm) old new → (Is : Origin → Type 0) (Refused : SingleFault → Type 0) (t : Trace) (steps : ℕ) (answer : Outcome)
    → ChecksTo Is Refused t steps answer → FileCounts Stays answer old new
module_replay_counts path old new wasm read Is Refused t steps answer h = read_counts path old new wasm read answer (checked_no_fault Is Refused t steps answer h)

-- its own file leaves no count where it is read
pub after_trace : (one : Bool) (o : SetOptions) (answer : Outcome) (old mid new : FilesState) → mid ≡ old → ProgramCounts one Stays o answer mid new → ProgramCounts one Stays o answer old new
after_trace one o answer old mid new same h = subst (λ s. ProgramCounts one Stays o answer s new) same h
