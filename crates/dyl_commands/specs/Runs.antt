-- What a call does to the input, the output, the errors, the clock and the random words.
-- Cited by the clause `does` of `serve`, through Clauses.
-- This profile: docs/FORMATS.md, "The commands" and "Runs".
use Rattle.std.specs.Prelude.{◌≡◌, ◌⊎◌, ℕ, List, [], ◌∷◌, map, Bool, true, false, Option, None, Some, Result, Ok, Err, codes}
use Rattle.std.specs.Option.{ForSome}
use Rattle.std.specs.FinMap.{get}
use Rattle.wasm_form.specs.declared.module.Module.{Module}
use Rattle.spec_reading.specs.spec_binary.DecodeAnswers.{DecodeAnswer}
use Rattle.spec_loading.specs.spec_validation.Faults as validation
use Rattle.spec_hosts.specs.spec_runtime.Names.{HostNames}
use Rattle.spec_loading.specs.spec_execution.OneModule.{ModuleState, module_opening}
use Rattle.spec_loading.specs.spec_linking.Sets.{ClosedSet, SetOptions, default_options}
use Rattle.spec_loading.specs.spec_linking.Gathering.{IsGathered, IsSet}
use Rattle.spec_loading.specs.spec_linking.Plans.{LinkOptions}
use Rattle.spec_loading.specs.spec_linking.LinkedSets.{LinkedSet}
use Rattle.spec_loading.specs.spec_linking.Links.{Links}
use Rattle.spec_loading.specs.Loading.{loaded_too_deep}
use Rattle.spec_loading.specs.LoadedSet.{set_loading, set_system, set_opening}
use Rattle.spec_loading.specs.Merged.{Merged}
use Rattle.spec_hosts.specs.dyl_outside.declared.fault.IoFault.{IoFault}
use Rattle.spec_hosts.specs.dyl_outside.declared.fault.IoFault.TheVariants as io
use Rattle.spec_hosts.specs.dyl_outside.FileMap.{FileMap}
use Rattle.spec_hosts.specs.dyl_outside.Sink.{SinkState, Puts}
use Rattle.spec_hosts.specs.declared.ran.Ran as ran
use Rattle.spec_hosts.specs.Devices.{Devices, devices}
use Rattle.spec_hosts.specs.Ends.{IsRunOf, IsCutShort}
use Rattle.spec_hosts.specs.Hosted.{Embedder}
use Rattle.wasm_exec.specs.Executed.{IsModuleRun, IsModuleCut, IsSetRun}
use Rattle.dyl_gen.specs.Laws.{set_options}
use Rattle.dyl_link.specs.dyl_search.Gathers.{options_of}
use Rattle.dyl_link.specs.Sets as links
use Rattle.dyl_front.specs.Listing.{listing_of}
use Rattle.dyl_front.specs.Summary.{summary_of}
use Rattle.dyl_front.specs.declared.reports.Report.{Report}
use Rattle.dyl_front.specs.declared.order.Order.{Order}
use Rattle.dyl_front.specs.declared.order.Order.TheVariants as order
use Rattle.dyl_front.specs.declared.outcome.UsageKind.{UsageKind}
use Rattle.dyl_front.specs.declared.outcome.Outcome.{Outcome}
use Rattle.dyl_front.specs.declared.outcome.Outcome.TheVariants.{Done, Ran, Board, TooLong, WriteFault, Memory}
use Rattle.spec_boards.specs.declared.ran.BoardRan as boards
use Rattle.spec_boards.specs.BoardRuns.{IsBoardRun, IsBoardCut}
use Rattle.dyl_store.specs.Stores.{set_course}
use Rattle.run_loaded.specs.Courses.{OfModule, OfSet, course_of}
use Rattle.dyl_commands.specs.OneFile.{OfFile}
use Rattle.dyl_commands.specs.Linking.{linked}
use Rattle.dyl_commands.specs.Traced.{HasText, IsShort, IsLong}
use Rattle.dyl_commands.specs.Generated.{with_pages, AreMade}
use Rattle.dyl_commands.specs.Told.{TellsErrors}

-- the arguments that the guest sees: the name `program`, and then those of the order
abbrev pub guest_arguments : List (List ℕ) → List (List ℕ)
guest_arguments args = codes "program" ∷ args

-- ---- one module

-- the module at a path, where the files are told, is valid and opens over these host functions
pub record Opens (told : Option FileMap) (path : List ℕ) (names : HostNames) (wasm : Module) (opening : ModuleState) : Type 0 where
  pub file : ForSome told (λ files. OfFile (get files) path (Ok wasm))
  pub valid : validation.fault wasm ≡ None
  pub opens : module_opening wasm names ≡ Ok opening

-- it was run from its opening state, as is told
pub record IsFileRun (told : Option FileMap) (path : List ℕ) (steps : ℕ) (embedder : Embedder) (r : ran.Ran) (old new : Devices) : Type 0 where
  pub wasm : Module
  pub opening : ModuleState
  pub begun : Opens told path embedder.names wasm opening
  pub run : IsModuleRun wasm embedder opening steps r old new

-- It was run from its opening state, and memory was wanting: some steps were made, and at most one use of a device was begun that a host
-- call wanted.
pub record IsFileCut (told : Option FileMap) (path : List ℕ) (steps : ℕ) (embedder : Embedder) (old new : Devices) : Type 0 where
  pub wasm : Module
  pub opening : ModuleState
  pub begun : Opens told path embedder.names wasm opening
  pub cut : IsModuleCut wasm embedder opening steps old new

abbrev pub ExecWorks : Option FileMap → List ℕ → ℕ → Embedder → Outcome → Devices → Devices → Type 0
ExecWorks told path steps embedder (Ran r) old new = IsFileRun told path steps embedder r old new
ExecWorks told path steps embedder Memory old new = (new ≡ old) ⊎ IsFileCut told path steps embedder old new
ExecWorks told path steps embedder answer old new = new ≡ old

-- ---- a set

-- a set with its shape is gathered, where the files are told, and links over these host functions
pub record IsThere (told : Option FileMap) (names : HostNames) (o : SetOptions) (link : LinkOptions) (set : ClosedSet) : Type 0 where
  pub gathered : ForSome told (λ files. IsGathered (get files) o (Ok set))
  pub shape : IsSet set
  pub links : Links (linked names link set)

-- the loaded set was run from its opening state, as is told
pub record IsLoadedRun (told : Option FileMap) (o : SetOptions) (link : LinkOptions) (steps : ℕ) (embedder : Embedder) (r : ran.Ran) (old new : Devices) : Type 0 where
  pub set : ClosedSet
  pub there : IsThere told embedder.names o link set
  pub run : IsRunOf (set_system (linked embedder.names link set)) (loaded_too_deep (set_loading (linked embedder.names link set))) embedder
      (set_opening (linked embedder.names link set)) steps r old new

-- it was, and memory was wanting
pub record IsLoadedCut (told : Option FileMap) (o : SetOptions) (link : LinkOptions) (steps : ℕ) (embedder : Embedder) (old new : Devices) : Type 0 where
  pub set : ClosedSet
  pub there : IsThere told embedder.names o link set
  pub cut : IsCutShort (set_system (linked embedder.names link set)) (loaded_too_deep (set_loading (linked embedder.names link set))) embedder
      (set_opening (linked embedder.names link set)) steps old new

abbrev pub RunWorks : Option FileMap → SetOptions → LinkOptions → ℕ → Embedder → Outcome → Devices → Devices → Type 0
RunWorks told o link steps embedder (Ran r) old new = IsLoadedRun told o link steps embedder r old new
RunWorks told o link steps embedder Memory old new = (new ≡ old) ⊎ IsLoadedCut told o link steps embedder old new
RunWorks told o link steps embedder answer old new = new ≡ old

-- ---- a run with its trace, of a set, or with `--one` of one module

-- what a run does
abbrev pub ProgramWorks : Option FileMap → Bool → SetOptions → LinkOptions → ℕ → Embedder → Outcome → Devices → Devices → Type 0
ProgramWorks told false o link steps embedder answer old new = RunWorks told o link steps embedder answer old new
ProgramWorks told true o link steps embedder answer old new = ExecWorks told o.main steps embedder answer old new

-- it was run, as is told, and the text of its trace has so many bytes
abbrev pub IsTracedRun : (ℕ → Type 0) → Option FileMap → Bool → SetOptions → LinkOptions → ℕ → Embedder → ran.Ran → Devices → Devices → Type 0
IsTracedRun Size told false o link steps embedder r old new =
    (h : IsLoadedRun told o link steps embedder r old new) × HasText Size (course_of (OfSet (linked embedder.names link h.set))) r
IsTracedRun Size told true o link steps embedder r old new =
    (h : IsFileRun told o.main steps embedder r old new) × HasText Size (course_of (OfModule h.wasm h.opening)) r

-- A run is told where its trace may be written, as it was where that failed, and else that the trace is too long.
abbrev pub TraceWorks : Option FileMap → Bool → SetOptions → LinkOptions → ℕ → Embedder → Outcome → Devices → Devices → Type 0
TraceWorks told one o link steps embedder (Ran r) old new = IsTracedRun IsShort told one o link steps embedder r old new
TraceWorks told one o link steps embedder (TooLong r) old new = IsTracedRun IsLong told one o link steps embedder r old new
TraceWorks told one o link steps embedder WriteFault old new = (r : ran.Ran) × IsTracedRun IsShort told one o link steps embedder r old new
TraceWorks told one o link steps embedder answer old new = ProgramWorks told one o link steps embedder answer old new

-- ---- sets that run in turns

-- what a picker may answer for the turn of a number and so many programs
abbrev pub Picks : Type 1
Picks = ℕ → ℕ → ℕ → Type 0

-- sets with their shapes are gathered, that of each main module in order, and link
abbrev pub AreThere : Option FileMap → HostNames → List (List ℕ) → LinkOptions → List ClosedSet → Type 0
AreThere told names [] link [] = Unit {0}
AreThere told names (main ∷ mains) link (set ∷ sets) = IsThere told names (default_options main) link set × AreThere told names mains link sets
AreThere told names _ link _ = ⊥

-- the loaded sets were run from their opening states in turns, as is told, by what the picker may answer
pub record IsRunInTurns (told : Option FileMap) (mains : List (List ℕ)) (link : LinkOptions) (steps slice turns : ℕ) (pick : Picks) (embedder : Embedder) (r : boards.BoardRan) (old new : Devices) : Type 0 where
  pub sets : List ClosedSet
  pub there : AreThere told embedder.names mains link sets
  pub run : IsBoardRun set_course (map (linked embedder.names link) sets) steps slice turns pick embedder r old new

-- they were, and memory was wanting
pub record IsCutInTurns (told : Option FileMap) (mains : List (List ℕ)) (link : LinkOptions) (steps slice turns : ℕ) (pick : Picks) (embedder : Embedder) (old new : Devices) : Type 0 where
  pub sets : List ClosedSet
  pub there : AreThere told embedder.names mains link sets
  pub cut : IsBoardCut set_course (map (linked embedder.names link) sets) steps slice turns pick embedder old new

abbrev pub BoardWorks : Option FileMap → List (List ℕ) → LinkOptions → ℕ → ℕ → ℕ → Picks → Embedder → Outcome → Devices → Devices → Type 0
BoardWorks told mains link steps slice turns pick embedder (Board r) old new = IsRunInTurns told mains link steps slice turns pick embedder r old new
BoardWorks told mains link steps slice turns pick embedder Memory old new = (new ≡ old) ⊎ IsCutInTurns told mains link steps slice turns pick embedder old new
BoardWorks told mains link steps slice turns pick embedder answer old new = new ≡ old

-- ---- a listing

-- its listing was put to the output in one put, with this result
pub record PutsListing (told : Option FileMap) (names : HostNames) (o : SetOptions) (link : LinkOptions) (result : Result (Unit {0}) IoFault) (old new : SinkState) : Type 0 where
  pub set : ClosedSet
  pub there : IsThere told names o link set
  pub put : Puts (listing_of (linked names link set)) result old new

-- what is done to the output
abbrev pub PlanWorks : Option FileMap → HostNames → SetOptions → LinkOptions → Outcome → SinkState → SinkState → Type 0
PlanWorks told names o link (Done runs) old new = PutsListing told names o link (Ok tt) old new
PlanWorks told names o link WriteFault old new = PutsListing told names o link (Err io.Failed) old new
PlanWorks told names o link Memory old new = (new ≡ old) ⊎ ((fault : IoFault) × PutsListing told names o link (Err fault) old new)
PlanWorks told names o link answer old new = new ≡ old

-- ---- a generated set

-- what its two runs begin over: no bytes to read, nothing written, no times, no random words, and no use that failed
abbrev pub nothing : Devices
nothing =
    let empty : SinkState = record { held = Some []; faults = 0 } in
    devices (record { left = Some []; full = true; faults = 0 }) empty empty (record { times = Some []; words = Some []; faults = 0 })

-- It was run over these devices, and put such bytes to the output. No use of the input or of an output failed.
pub record IsRunInside (Run : Devices → Devices → Type 0) (output : List ℕ) : Type 0 where
  pub after : Devices
  pub run : Run nothing after
  pub put : after.output.held ≡ Some output
  pub input : after.input.faults ≡ 0
  pub outputs : (after.output.faults ≡ 0) × (after.errors.faults ≡ 0)

-- A linked set was run as loaded, and the module that is decoded of bytes which merge it was run, each for steps of its own. These are the two runs, and their summary.
pub record AreBothRun (L : LinkedSet) (embedder : Embedder) (steps : ℕ) (runs : List ran.Ran) (summary : List ℕ) : Type 0 where
  pub loaded : Report
  pub loaded_run : IsRunInside (IsSetRun L embedder steps loaded.ran) loaded.output
  pub bytes : List ℕ
  pub merges : Merged L bytes
  pub decoded : DecodeAnswer bytes (Ok merges.wasm)
  pub merged : Report
  pub merged_run : IsRunInside (IsModuleRun merges.wasm embedder merges.opening steps merged.ran) merged.output
  pub two : runs ≡ loaded.ran ∷ merged.ran ∷ []
  pub sums : summary ≡ summary_of L loaded merged

-- the set of n members is generated and links, both its runs were made, and their summary was put to the output in one put, with this result
pub record PutsSummary (embedder : Embedder) (n pages steps : ℕ) (runs : List ran.Ran) (result : Result (Unit {0}) IoFault) (old new : SinkState) : Type 0 where
  pub files : FileMap
  pub made : AreMade n files
  pub set : ClosedSet
  pub there : IsThere (Some files) embedder.names set_options (with_pages pages) set
  pub summary : List ℕ
  pub both : AreBothRun (linked embedder.names (with_pages pages) set) embedder steps runs summary
  pub put : Puts summary result old new

-- what is done to the output
abbrev pub GenWorks : Embedder → ℕ → ℕ → ℕ → Outcome → SinkState → SinkState → Type 0
GenWorks embedder n pages steps (Done runs) old new = PutsSummary embedder n pages steps runs (Ok tt) old new
GenWorks embedder n pages steps WriteFault old new = (runs : List ran.Ran) × PutsSummary embedder n pages steps runs (Err io.Failed) old new
GenWorks embedder n pages steps Memory old new = (new ≡ old) ⊎ ((runs : List ran.Ran) × (fault : IoFault) × PutsSummary embedder n pages steps runs (Err fault) old new)
GenWorks embedder n pages steps answer old new = new ≡ old

-- ---- what is asked

-- What is done to the devices before the answer is told. Only a run, a listing and a summary do anything; so does a run in which memory was
-- wanting. `pick` is what a picker may answer for the turn of a number and so many programs. The names that are declared are the same whatever
-- the arguments are.
abbrev pub Works : Option FileMap → (List (List ℕ) → Embedder) → Picks → Result Order UsageKind → Outcome → Devices → Devices → Type 0
Works told embedder pick (Ok (order.Run o link steps args)) answer old new =
    RunWorks told (options_of o) (links.options_of link) steps (embedder (guest_arguments args)) answer old new
Works told embedder pick (Ok (order.Exec file steps args)) answer old new = ExecWorks told file steps (embedder (guest_arguments args)) answer old new
Works told embedder pick (Ok (order.Plan o link)) answer old new =
    PlanWorks told (embedder []).names (options_of o) (links.options_of link) answer old.output new.output × (new ≡ record old { output = new.output })
Works told embedder pick (Ok (order.Gen n pages steps)) answer old new =
    GenWorks (embedder (guest_arguments [])) n pages steps answer old.output new.output × (new ≡ record old { output = new.output })
Works told embedder pick (Ok (order.Trace one o link steps out args)) answer old new =
    TraceWorks told one (options_of o) (links.options_of link) steps (embedder (guest_arguments args)) answer old new
Works told embedder pick (Ok (order.Board mains link steps slice turns)) answer old new =
    BoardWorks told mains (links.options_of link) steps slice turns pick (embedder (guest_arguments [])) answer old new
Works told embedder pick asked answer old new = new ≡ old

-- nothing is picked, where no turns are taken
abbrev pub no_picks : Picks
no_picks turn count program = ⊥

-- What is done to the devices: that, and then what is told of the answer is put to the errors.
pub record Does (told : Option FileMap) (embedder : List (List ℕ) → Embedder) (pick : Picks) (asked : Result Order UsageKind) (answer : Outcome) (old new : Devices) : Type 0 where
  pub errors : SinkState
  pub works : Works told embedder pick asked answer old (record new { errors = errors })
  pub line : TellsErrors answer errors new.errors
