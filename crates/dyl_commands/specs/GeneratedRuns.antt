-- What comes of generating a set and of its runs, step by step.
-- Cited by no clause of `serve`: what its parts promise.
-- Serves the contracts of this crate, which follow Generated of `dyl_commands`.
use Rattle.std.specs.Prelude.{◌≡◌, ◌⊎◌, ◌<◌, ◌^◌, ℕ, List, ◌∷◌, [], Result, Ok, Err}
use Rattle.std.specs.FinMap.{get}
use Rattle.wasm_form.specs.declared.module.Module.{Module}
use Rattle.spec_hosts.specs.dyl_outside.declared.fault.IoFault.{IoFault}
use Rattle.spec_hosts.specs.dyl_outside.declared.fault.IoFault.TheVariants as io
use Rattle.spec_hosts.specs.dyl_outside.FileMap.{FileMap}
use Rattle.spec_hosts.specs.dyl_outside.MemFiles.{MemFilesState}
use Rattle.spec_hosts.specs.dyl_outside.Sink.{SinkState, Puts}
use Rattle.spec_hosts.specs.spec_runtime.Names.{HostNames}
use Rattle.spec_reading.specs.spec_binary.DecodeAnswers.{DecodeAnswer}
use Rattle.spec_loading.specs.spec_execution.OneModule.{ModuleState, module_opening}
use Rattle.spec_loading.specs.spec_linking.Sets.{ClosedSet}
use Rattle.spec_loading.specs.spec_linking.Gathering.{IsGathered, IsSet}
use Rattle.spec_loading.specs.spec_linking.LinkedSets.{LinkedSet}
use Rattle.spec_loading.specs.spec_linking.Links.{Links}
use Rattle.spec_loading.specs.Merged.{Merged}
use Rattle.spec_hosts.specs.declared.ran.Ran.{Ran}
use Rattle.spec_hosts.specs.Hosted.{Embedder}
use Rattle.wasm_exec.specs.Executed.{IsSetRun, IsModuleRun}
use Rattle.merge_whole.specs.Merges.{bulk}
use Rattle.dyl_gen.specs.declared.fault.GenFault.TheVariants.{Range}
use Rattle.dyl_gen.specs.Laws.{set_options}
use Rattle.dyl_front.specs.Summary.{summary_of}
use Rattle.dyl_front.specs.declared.reports.Report.{Report}
use Rattle.dyl_front.specs.declared.outcome.Outcome.{Outcome}
use Rattle.dyl_front.specs.declared.outcome.Outcome.TheVariants.{Done, Gen, WriteFault, Memory}
use Rattle.dyl_commands.specs.Linking.{linked}
use Rattle.dyl_commands.specs.Generated.{with_pages, AreMade, GenDue}
use Rattle.dyl_commands.specs.Runs.{IsRunInside, AreBothRun}

-- the files of the set of n members; none, where there is no such set or no memory
abbrev pub MakesFiles : ℕ → Result MemFilesState Outcome → Type 0
MakesFiles n (Ok s) = AreMade n s.files
MakesFiles n (Err Memory) = Unit {0}
MakesFiles n (Err (Gen Range)) = (n ≡ 0) ⊎ (255 < n)
MakesFiles n (Err _) = ⊥

-- why there is no set: what is due, or want of memory
abbrev pub IsNotMade : HostNames → ℕ → ℕ → Outcome → Type 0
IsNotMade names n pages Memory = Unit {0}
IsNotMade names n pages (Done runs) = ⊥
IsNotMade names n pages answer = GenDue names n pages answer

-- the set of n members, which is generated and links
pub record IsMade (names : HostNames) (n pages : ℕ) (L : LinkedSet) : Type 0 where
  pub files : FileMap
  pub made : AreMade n files
  pub set : ClosedSet
  pub gathered : IsGathered (get files) set_options (Ok set)
  pub shape : IsSet set
  pub links : Links (linked names (with_pages pages) set)
  pub is : L ≡ linked names (with_pages pages) set

abbrev pub MakesSet : HostNames → ℕ → ℕ → Result LinkedSet Outcome → Type 0
MakesSet names n pages (Ok L) = IsMade names n pages L
MakesSet names n pages (Err answer) = IsNotMade names n pages answer

-- there is little of it
abbrev pub IsLittle : LinkedSet → Type 0
IsLittle L = bulk L < 2 ^ 32

-- a run of a linked set, as loaded
abbrev pub RunsLoaded : LinkedSet → Embedder → ℕ → Report → Type 0
RunsLoaded L embedder steps r = IsRunInside (IsSetRun L embedder steps r.ran) r.output

-- a module that is decoded of some bytes which merge the set
pub record MergesTo (L : LinkedSet) (wasm : Module) : Type 0 where
  pub bytes : List ℕ
  pub merges : Merged L bytes
  pub decoded : DecodeAnswer bytes (Ok merges.wasm)
  pub is : merges.wasm ≡ wasm

-- a run of a module from its opening state
pub record RunsModule (wasm : Module) (embedder : Embedder) (steps : ℕ) (r : Report) : Type 0 where
  pub opening : ModuleState
  pub opens : module_opening wasm embedder.names ≡ Ok opening
  pub run : IsRunInside (IsModuleRun wasm embedder opening steps r.ran) r.output

-- the summary of these runs of a linked set was put
abbrev pub SumsUp : LinkedSet → Report → Report → Outcome → SinkState → SinkState → Type 0
SumsUp L loaded merged (Done runs) old new = (runs ≡ loaded.ran ∷ merged.ran ∷ []) × Puts (summary_of L loaded merged) (Ok tt) old new
SumsUp L loaded merged WriteFault old new = Puts (summary_of L loaded merged) (Err io.Failed) old new
SumsUp L loaded merged Memory old new = (new ≡ old) ⊎ Puts (summary_of L loaded merged) (Err io.Memory) old new
SumsUp L loaded merged _ old new = ⊥

-- both runs of a linked set were made, and their summary was put, with this result
pub record PutsBoth (L : LinkedSet) (embedder : Embedder) (steps : ℕ) (runs : List Ran) (result : Result (Unit {0}) IoFault) (old new : SinkState) : Type 0 where
  pub summary : List ℕ
  pub both : AreBothRun L embedder steps runs summary
  pub put : Puts summary result old new

-- what that does to the output
abbrev pub RunsBoth : LinkedSet → Embedder → ℕ → Outcome → SinkState → SinkState → Type 0
RunsBoth L embedder steps (Done runs) old new = PutsBoth L embedder steps runs (Ok tt) old new
RunsBoth L embedder steps WriteFault old new = (runs : List Ran) × PutsBoth L embedder steps runs (Err io.Failed) old new
RunsBoth L embedder steps Memory old new = (new ≡ old) ⊎ ((runs : List Ran) × PutsBoth L embedder steps runs (Err io.Memory) old new)
RunsBoth L embedder steps _ old new = ⊥
