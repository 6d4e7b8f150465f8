-- What is so of an answer and of the files, for each command.
-- Cited by no clause of `serve`: what its parts promise.
-- Serves the contracts of this crate, which follow Due and Runs of `dyl_commands`.
use Rattle.std.specs.Prelude.{◌≡◌, ◌⊎◌, ◌≤◌, ◌++◌, ℕ, List, [], ◌∷◌, false, Option, Some, IsSomeAnd, IfOk, IfErr, Result, Ok, Err}
use Rattle.std.specs.Option.{ForSome}
use Rattle.std.specs.FinMap.{get, insert}
use Rattle.wasm_form.specs.declared.module.Module.{Module}
use Rattle.spec_hosts.specs.dyl_outside.Faults.{Rises}
use Rattle.spec_hosts.specs.dyl_outside.FileMap.{FileMap, SameBut}
use Rattle.spec_hosts.specs.dyl_outside.Files.{FilesState}
use Rattle.spec_hosts.specs.dyl_outside.Sink.{SinkState, Puts}
use Rattle.spec_hosts.specs.dyl_outside.declared.fault.IoFault.TheVariants as io
use Rattle.spec_hosts.specs.spec_runtime.Names.{HostNames}
use Rattle.spec_loading.specs.spec_execution.declared.fault.SingleFault.TheVariants as single
use Rattle.spec_loading.specs.spec_execution.OneModule.{ModuleState, module_opening}
use Rattle.spec_hosts.specs.Devices.{Devices}
use Rattle.spec_hosts.specs.Hosted.{Embedder}
use Rattle.spec_loading.specs.spec_linking.declared.fault.SetFault.{SetFault}
use Rattle.spec_loading.specs.spec_linking.declared.fault.SetFault.TheVariants as set
use Rattle.spec_loading.specs.spec_linking.declared.fault.LinkFault.{LinkFault}
use Rattle.spec_loading.specs.spec_linking.declared.fault.LinkFault.TheVariants as link
use Rattle.spec_loading.specs.spec_linking.Sets.{ClosedSet, SetOptions, default_options}
use Rattle.spec_loading.specs.spec_linking.Gathering.{IsGathered, IsSet}
use Rattle.spec_loading.specs.spec_linking.Plans.{LinkOptions}
use Rattle.spec_loading.specs.spec_linking.LinkedSets.{LinkedSet}
use Rattle.spec_loading.specs.spec_linking.Links.{Links, link_fault}
use Rattle.spec_merging.specs.declared.fault.MergeFault.{MergeFault}
use Rattle.spec_merging.specs.declared.fault.MergeFault.TheVariants as merge
use Rattle.spec_snapshots.specs.declared.fault.SnapFault.{SnapFault}
use Rattle.spec_snapshots.specs.declared.fault.SnapFault.TheVariants as snap
use Rattle.spec_snapshots.specs.Causes.{Takes, IsFirst, state_after}
use Rattle.snap_merge.specs.Answers.{Snapped, SnapTells}
use Rattle.spec_boards.specs.BoardRuns.{IsBoardRun, IsBoardCut}
use Rattle.dyl_store.specs.Stores.{set_course}
use Rattle.wasm_exec.specs.Executed as executed
use Rattle.wasm_exec.specs.Executed.{IsModuleRun, IsModuleCut}
use Rattle.merge_whole.specs.Merges.{IsTooLongFor}
use Rattle.merge_whole.specs.Merges as whole
use Rattle.dyl_link.specs.dyl_search.Absents.{CountsFor}
use Rattle.run_loaded.specs.Courses.{Origin, OfModule, OfSet, course_of, TakesAll}
use Rattle.dyl_front.specs.Listing.{listing_of}
use Rattle.dyl_front.specs.declared.order.Order.{Order}
use Rattle.dyl_front.specs.declared.outcome.UsageKind.{UsageKind}
use Rattle.dyl_front.specs.declared.outcome.Outcome.{Outcome}
use Rattle.dyl_front.specs.declared.outcome.Outcome.TheVariants.{Done, Ran, Board, Set, Link, Merge, Single, Snap, WriteFault, Memory}
use Rattle.dyl_commands.specs.Linking.{linked, FaultTells}
use Rattle.dyl_commands.specs.Sets.{FirstTells}
use Rattle.dyl_commands.specs.Due.{TellsFor}
use Rattle.dyl_commands.specs.Files.{LeavesFor}
use Rattle.dyl_commands.specs.Causes.{SetCause, Caused, has_inner_memory}
use Rattle.dyl_commands.specs.Counts.{ReadsFor, StoresFor, TriedForSet, BoardCounts}

-- the answer to what is asked, the files before and after, and the counts of the puts to the output that failed
pub record Serves (names : HostNames) (asked : Result Order UsageKind) (answer : Outcome) (old new : FilesState) (before now : ℕ) : Type 0 where
  pub tells : ForSome old.told (λ files. TellsFor names (get files) asked answer)
  pub leaves : ForSome old.told (λ files. LeavesFor names asked files answer old new)
  pub caused : Caused names asked answer old new before now
  pub inner : has_inner_memory answer ≡ false

-- ---- a set that is gathered and linked

-- a linked set, which the files give where they are told
pub record IsGot (names : HostNames) (o : SetOptions) (l : LinkOptions) (L : LinkedSet) (old : FilesState) : Type 0 where
  pub set : ClosedSet
  pub gathered : ForSome old.told (λ files. IsGathered (get files) o (Ok set))
  pub shape : IsSet set
  pub links : Links (linked names l set)
  pub is : L ≡ linked names l set

-- an outcome where there is none: a fault of the set, a link fault, or want of memory
abbrev pub GotCause : Outcome → FilesState → FilesState → Type 0
GotCause (Set fault) old new = SetCause fault old new
GotCause (Link fault) old new = Unit {0}
GotCause Memory old new = Unit {0}
GotCause _ old new = ⊥

pub record IsNotGot (names : HostNames) (o : SetOptions) (l : LinkOptions) (answer : Outcome) (old new : FilesState) : Type 0 where
  pub tells : ForSome old.told (λ files. FaultTells names (get files) o l answer)
  pub caused : GotCause answer old new
  pub inner : has_inner_memory answer ≡ false

-- a fetch failed exactly where that is answered
abbrev pub GotReads : Result LinkedSet Outcome → ℕ → ℕ → Type 0
GotReads (Ok L) before now = now ≡ before
GotReads (Err answer) before now = ReadsFor answer before now

-- and these paths were tried, where the files are told
abbrev pub GotTried : Option FileMap → SetOptions → Result LinkedSet Outcome → ℕ → ℕ → Type 0
GotTried told o (Ok L) before now = (S : ClosedSet) × CountsFor told o (Ok S) before now
GotTried told o (Err answer) before now = TriedForSet told o answer before now

-- What comes of gathering and linking: no file changes.
pub record Gets (names : HostNames) (o : SetOptions) (l : LinkOptions) (result : Result LinkedSet Outcome) (old new : FilesState) : Type 0 where
  pub got : IfOk result (λ L. IsGot names o l L old)
  pub fault : IfErr result (λ answer. IsNotGot names o l answer old new)
  pub files : new.told ≡ old.told
  pub reads : GotReads result old.read_faults new.read_faults
  pub writes : new.write_faults ≡ old.write_faults
  pub absents : old.absents ≤ new.absents
  pub tried : GotTried old.told o result old.absents new.absents

-- ---- several sets, each of a main module alone, one after the other

-- they are linked, and the files give them where these are told
abbrev pub AreGot : HostNames → List (List ℕ) → LinkOptions → List LinkedSet → FilesState → Type 0
AreGot names [] l [] old = Unit {0}
AreGot names (main ∷ mains) l (L ∷ Ls) old = IsGot names (default_options main) l L old × AreGot names mains l Ls old
AreGot names _ l _ old = ⊥

-- an outcome where the first of them that isn't linked isn't
pub record AreNotGot (names : HostNames) (mains : List (List ℕ)) (l : LinkOptions) (answer : Outcome) (old new : FilesState) : Type 0 where
  pub tells : ForSome old.told (λ files. FirstTells names (get files) mains l answer)
  pub caused : GotCause answer old new
  pub inner : has_inner_memory answer ≡ false

-- what may be answered where all are: that they were run, or want of memory
abbrev pub MayFollowAll : Outcome → Type 0
MayFollowAll (Board ran) = Unit {0}
MayFollowAll Memory = Unit {0}
MayFollowAll _ = ⊥

-- and where one isn't: the outcome
abbrev pub MayFollow : Result (List LinkedSet) Outcome → Outcome → Type 0
MayFollow (Ok Ls) answer = MayFollowAll answer
MayFollow (Err outcome) answer = answer ≡ outcome

-- What comes of gathering and linking them: no file changes.
pub record GetsAll (names : HostNames) (mains : List (List ℕ)) (l : LinkOptions) (result : Result (List LinkedSet) Outcome) (old new : FilesState) : Type 0 where
  pub got : IfOk result (λ Ls. AreGot names mains l Ls old)
  pub fault : IfErr result (λ answer. AreNotGot names mains l answer old new)
  pub files : new.told ≡ old.told
  pub counts : (answer : Outcome) → MayFollow result answer → BoardCounts mains answer old new

-- of one more, behind those that are linked
abbrev pub GetsNext : HostNames → List ℕ → LinkOptions → Result (Unit {0}) Outcome → List LinkedSet → List LinkedSet → FilesState → FilesState → Type 0
GetsNext names main l (Ok done) olds news old new = (L : LinkedSet) × (news ≡ olds ++ L ∷ []) × Gets names (default_options main) l (Ok L) old new
GetsNext names main l (Err answer) olds news old new = Gets names (default_options main) l (Err answer) old new

-- these, where all are
abbrev pub all_linked : Result (Unit {0}) Outcome → List LinkedSet → Result (List LinkedSet) Outcome
all_linked (Ok done) Ls = Ok Ls
all_linked (Err outcome) Ls = Err outcome

-- ---- one set that was gathered

-- What linking a set comes to: this very set where it links, or why it doesn't.
abbrev pub LinksTo : LinkedSet → Result LinkedSet Outcome → Type 0
LinksTo L (Ok M) = (M ≡ L) × Links L
LinksTo L (Err (Link link.Memory)) = ⊥
LinksTo L (Err (Link fault)) = link_fault L ≡ Some fault
LinksTo L (Err Memory) = Unit {0}
LinksTo L (Err _) = ⊥

-- ---- storing what a command writes

-- what each answer of a store leaves of the files
abbrev pub StoresOutput : List ℕ → List ℕ → Result (Unit {0}) Outcome → FilesState → FilesState → Type 0
StoresOutput out bytes (Ok done) old new = ForSome old.told (λ files. new.told ≡ Some (insert files out bytes))
StoresOutput out bytes (Err WriteFault) old new = ForSome old.told (λ files. IsSomeAnd new.told (SameBut out files)) × Rises old.write_faults new.write_faults
StoresOutput out bytes (Err Memory) old new = ForSome old.told (λ files. new.told ≡ Some files)
StoresOutput out bytes (Err _) old new = ⊥

-- and of the counts
abbrev pub StoredBy : Result (Unit {0}) Outcome → ℕ → ℕ → Type 0
StoredBy (Ok done) before now = now ≡ before
StoredBy (Err answer) before now = StoresFor answer before now

pub record StoreCounts (Stores : ℕ → ℕ → Type 0) (old new : FilesState) : Type 0 where
  pub reads : new.read_faults ≡ old.read_faults
  pub stores : Stores old.write_faults new.write_faults
  pub absents : new.absents ≡ old.absents

-- ---- merging a linked set

-- the path of the output holds what merges the set, and every other path is as it was
pub record HoldsMerged (L : LinkedSet) (out : List ℕ) (files after : FileMap) : Type 0 where
  pub output : List ℕ
  pub merges : whole.Merges L output
  pub written : after ≡ insert files out output

-- what each outcome of merging leaves of the files
abbrev pub WritesMerged : LinkedSet → List ℕ → Outcome → FilesState → FilesState → Type 0
WritesMerged L out (Done []) old new = ForSome old.told (λ files. IsSomeAnd new.told (HoldsMerged L out files))
WritesMerged L out WriteFault old new = ForSome old.told (λ files. IsSomeAnd new.told (SameBut out files)) × Rises old.write_faults new.write_faults
WritesMerged L out (Merge merge.Memory) old new = ⊥
WritesMerged L out (Merge (merge.SectionSize id)) old new = IsTooLongFor L id × (new.told ≡ old.told)
WritesMerged L out Memory old new = ForSome old.told (λ files. new.told ≡ Some files)
WritesMerged L out _ old new = ⊥

-- ---- writing the snapshot of a linked set

-- the set comes to the call of its entry, after at most so many steps
abbrev pub Starts : LinkedSet → ℕ → Type 0
Starts L most = (n : ℕ) × IsFirst L most n Takes

-- the path of the output holds a snapshot of it, as it stands then, and every other path is as it was
pub record HoldsSnapshot (L : LinkedSet) (most : ℕ) (out : List ℕ) (files after : FileMap) : Type 0 where
  pub steps : ℕ
  pub first : IsFirst L most steps Takes
  pub output : List ℕ
  pub snapped : Snapped L output (state_after L steps)
  pub written : after ≡ insert files out output

-- what each outcome leaves of the files
abbrev pub WritesSnapshot : LinkedSet → ℕ → List ℕ → Outcome → FilesState → FilesState → Type 0
WritesSnapshot L most out (Done []) old new = Starts L most × ForSome old.told (λ files. IsSomeAnd new.told (HoldsSnapshot L most out files))
WritesSnapshot L most out WriteFault old new = Starts L most × ForSome old.told (λ files. IsSomeAnd new.told (SameBut out files)) × Rises old.write_faults new.write_faults
WritesSnapshot L most out (Snap snap.Memory) old new = ⊥
WritesSnapshot L most out (Snap why) old new = SnapTells L most why × (new.told ≡ old.told)
WritesSnapshot L most out Memory old new = ForSome old.told (λ files. new.told ≡ Some files)
WritesSnapshot L most out _ old new = ⊥

-- ---- listing a linked set

-- its listing was put
abbrev pub Lists : LinkedSet → Outcome → SinkState → SinkState → Type 0
Lists L (Done []) old new = Puts (listing_of L) (Ok tt) old new
Lists L WriteFault old new = Puts (listing_of L) (Err io.Failed) old new
Lists L Memory old new = (new ≡ old) ⊎ Puts (listing_of L) (Err io.Memory) old new
Lists L _ old new = ⊥

-- ---- running a linked set

-- what each outcome does to the devices
abbrev pub ExecutesSet : LinkedSet → Embedder → ℕ → Outcome → Devices → Devices → Type 0
ExecutesSet L embedder steps (Ran r) old new = executed.IsSetRun L embedder steps r old new
ExecutesSet L embedder steps Memory old new = (new ≡ old) ⊎ executed.IsSetCut L embedder steps old new
ExecutesSet L embedder steps _ old new = ⊥

-- ---- running linked sets in turns

-- what each outcome does to the devices
abbrev pub RunsInTurns : List LinkedSet → Embedder → ℕ → ℕ → ℕ → (ℕ → ℕ → ℕ → Type 0) → Outcome → Devices → Devices → Type 0
RunsInTurns Ls embedder steps slice turns pick (Board r) old new = IsBoardRun set_course Ls steps slice turns pick embedder r old new
RunsInTurns Ls embedder steps slice turns pick Memory old new = IsBoardCut set_course Ls steps slice turns pick embedder old new
RunsInTurns Ls embedder steps slice turns pick _ old new = ⊥

-- ---- running a module that was read

-- what each outcome says of the module, and does to the devices
abbrev pub ExecutesModule : Module → Embedder → ℕ → Outcome → Devices → Devices → Type 0
ExecutesModule wasm embedder steps (Ran r) old new = (opening : ModuleState) × (module_opening wasm embedder.names ≡ Ok opening) × IsModuleRun wasm embedder opening steps r old new
ExecutesModule wasm embedder steps (Single single.Memory) old new = ⊥
ExecutesModule wasm embedder steps (Single fault) old new = (module_opening wasm embedder.names ≡ Err fault) × (new ≡ old)
ExecutesModule wasm embedder steps Memory old new = (new ≡ old) ⊎ ((opening : ModuleState) × (module_opening wasm embedder.names ≡ Ok opening) × IsModuleCut wasm embedder opening steps old new)
ExecutesModule wasm embedder steps _ old new = ⊥

-- ---- a fault of the files, of linking, of merging, or of a snapshot

abbrev pub set_outcome : SetFault → Outcome
set_outcome set.Memory = Memory
set_outcome fault = Set fault

abbrev pub link_outcome : LinkFault → Outcome
link_outcome link.Memory = Memory
link_outcome fault = Link fault

abbrev pub merge_outcome : MergeFault → Outcome
merge_outcome merge.Memory = Memory
merge_outcome fault = Merge fault

abbrev pub snap_outcome : SnapFault → Outcome
snap_outcome snap.Memory = Memory
snap_outcome why = Snap why

-- ---- the runs of a program: it may be said to have each that begins so

abbrev pub BeginsAsSet : LinkedSet → Origin → Type 0
BeginsAsSet L (OfSet M) = L ≡ M
BeginsAsSet L (OfModule m opening) = ⊥

abbrev pub BeginsAsModule : Module → HostNames → Origin → Type 0
BeginsAsModule wasm names (OfSet L) = ⊥
BeginsAsModule wasm names (OfModule m opening) = (m ≡ wasm) × (module_opening wasm names ≡ Ok opening)

-- the run that is told, if one is, took all its answers
abbrev pub TakesAnswers : (Origin → Type 0) → Outcome → Type 0
TakesAnswers Is (Ran r) = (x : Origin) → Is x → TakesAll (course_of x) r
TakesAnswers Is _ = Unit {0}
