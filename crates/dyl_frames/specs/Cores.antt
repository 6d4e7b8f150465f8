-- The core of a run, and the state at which it stands.
-- Serves the contracts of this crate, which follow Loading of `spec_loading`.
use Rattle.std.specs.Prelude.{◌≡◌, ◌≢◌, ◌⊎◌, ◌<◌, ◌≤◌, ◌+◌, ℕ, List, [], ◌∷◌, length, sum, reverse, drop, take, slice_get, slice_set, ◌-◌, nat_lt, replicate, Option, Some, None, Bool, true, false, IfSome, IsTrue, Result, Ok, Err}
use Rattle.std.specs.List.{All}
use Rattle.spec_loading.specs.spec_runs.Systems.{Moving, Waits, Returned, Exited, Trapped}
use Rattle.spec_loading.specs.wasm_form.declared.runtime.LoaderCall.{LoaderCall}
use Rattle.spec_loading.specs.wasm_form.declared.runtime.LoaderCall.TheVariants.{Dlopen, Dlsym, Dlclose, Dlerror}
use Rattle.spec_loading.specs.wasm_form.declared.runtime.Trap.{Trap}
use Rattle.spec_loading.specs.wasm_form.declared.runtime.Ref.{Ref}
use Rattle.spec_loading.specs.wasm_form.declared.runtime.Ref.TheVariants.{Own}
use Rattle.spec_loading.specs.wasm_form.declared.runtime.Answer.{Answer}
use Rattle.spec_loading.specs.spec_runtime.Memories.{MemoryInstance}
use Rattle.spec_loading.specs.spec_runtime.Hosts.{HostCall, fits_results}
use Rattle.spec_loading.specs.spec_execution.Views.{View}
use Rattle.spec_loading.specs.spec_execution.Instances.{host_type}
use Rattle.spec_loading.specs.spec_execution.Runs.{Frame, Marked, Loads, is_running, taken}
use Rattle.spec_loading.specs.spec_execution.Segments.{Performed}
use Rattle.wasm_step.specs.declared.done.Done.{Done}
use Rattle.wasm_step.specs.declared.done.Done.TheVariants as done
use Rattle.wasm_view.specs.Seen.{Seen}
use Rattle.wasm_machine.specs.Machines.{IsOver, IsMarked}
use Rattle.wasm_machine.specs.Iterated.{Iterated}
use Rattle.wasm_machine.specs.Marks.{marked_stack, IsStackOver}
use Rattle.wasm_machine.specs.declared.machine.Standing.{Standing}
use Rattle.wasm_machine.specs.declared.machine.Standing.TheVariants as standing
use Rattle.wasm_machine.specs.declared.event.Event.{Event}
use Rattle.wasm_machine.specs.declared.event.Event.TheVariants as event
use Rattle.spec_loading.specs.declared.task.Task.{Task}
use Rattle.spec_loading.specs.declared.task.After.{After}
use Rattle.spec_loading.specs.declared.task.After.TheVariants.{CallEntry, GiveHandle, GiveAndPromote}
use Rattle.spec_loading.specs.Phases.{LoaderFrame, stage_of}
use Rattle.spec_loading.specs.Loading.{Loading, LoaderState, LoadedState, LoaderAnswer, Gives, Opens, with_run, comes_to, loaded_next, loaded_step, loaded_too_deep}
use Rattle.dyl_frames.specs.declared.frames.Pending.{Pending}
use Rattle.dyl_frames.specs.declared.frames.Core.{Core}
use Rattle.wasm_machine.specs.Steps.{TellsStatus}
use Rattle.dyl_frames.specs.Next.{next_answer, HasCodeOnTop, IsCodeNext, MayWant}
use Rattle.spec_keeping.specs.Started.{calls_entry, is_started}

-- ---- the frames

abbrev pub frame_of : Pending → LoaderFrame
frame_of p = record { tasks = reverse p.tasks.items; after = p.after }

abbrev pub frame_in : Option Pending → LoaderFrame
frame_in None = record { tasks = []; after = CallEntry }
frame_in (Some p) = frame_of p

-- the frame that a mark of this number stands for
abbrev pub frame_at : List Pending → ℕ → LoaderFrame
frame_at frames tag = frame_in (slice_get frames tag)

-- what a frame lies over: nothing where the entry follows, and an activation that waits where a handle does
abbrev pub LiesOver : After → List (Frame ℕ) → Type 0
LiesOver CallEntry frames = frames ≡ []
LiesOver (GiveHandle m) frames = is_running frames ≡ true
LiesOver (GiveAndPromote m) frames = is_running frames ≡ true

-- what lies under the mark of each number
abbrev pub LiesUnder : List Pending → ℕ → List (Frame ℕ) → Type 0
LiesUnder frames tag under = LiesOver (frame_at frames tag).after under

-- a handle that is given is that of one of so many members
abbrev pub IsHandle : ℕ → After → Type 0
IsHandle members CallEntry = Unit {0}
IsHandle members (GiveHandle m) = m < members
IsHandle members (GiveAndPromote m) = m < members

-- a handle is given
abbrev pub GivesHandle : After → Type 0
GivesHandle CallEntry = ⊥
GivesHandle (GiveHandle m) = Unit {0}
GivesHandle (GiveAndPromote m) = Unit {0}

-- the members of its tasks, and the one whose handle is given, are there
pub record IsPending (members : ℕ) (p : Pending) : Type 0 where
  pub tasks : All (λ (t : Task). t.member < members) (frame_of p).tasks
  pub handle : IsHandle members p.after

-- ---- what is so of it

-- the call stack has a mark for each of the frames
abbrev pub IsStacked : List Pending → List (Frame ℕ) → Type 0
IsStacked pending frames = IsStackOver (LiesUnder pending) (length pending) frames

-- it goes on or waits: the call stack is there
abbrev pub IsLive : Standing → List Pending → List (Frame ℕ) → Type 0
IsLive standing.Moving pending frames = IsStacked pending frames
IsLive (standing.Asking entry count) pending frames = IsStacked pending frames
IsLive standing.Loading pending frames = IsStacked pending frames × (is_running frames ≡ true)
IsLive standing.Lost pending frames = ⊥
IsLive _ pending frames = Unit {0}

-- how the units of a view are loaded, whose host functions have names
pub record IsLoaded {Units : Type 0} (D : Loading Units) (V : View Units) : Type 0 where
  pub view : D.view ≡ V
  pub hosts : (entry : ℕ) → D.view.host entry ≡ host_type (D.names entry)

-- The machine is sound over what there is, and the tasks name only what there is. The mark of a number stands for the frame of that number.
pub record IsSound {Units : Type 0} (V : View Units) (us : Units) (memory : MemoryInstance) (c : Core) : Type 0 where
  pub over : IsOver V us memory c.machine
  pub live : IsLive c.machine.standing c.frames.items c.machine.stack.frames
  pub pending : (i : ℕ) (p : Pending) → slice_get c.frames.items i ≡ Some p → IsPending (length c.stages) p

-- There are at most 256 members, each at one of the stages 0 to 4, and as many may be promoted. Each frame waits for the call of a phase, but
-- for one whose mark is on top of the call stack; and with each such call its member came to a further stage, so that there are no more than
-- all stages together.
pub record HasFewFrames (c : Core) : Type 0 where
  pub members : length c.stages ≤ 256
  pub stages : All (λ (stage : ℕ). stage ≤ 4) c.stages
  pub room : c.promoted.room ≡ length c.stages
  pub frames : length c.frames.items ≤ sum c.stages + 1
  pub running : is_running c.machine.stack.frames ≡ true → length c.frames.items ≤ sum c.stages

-- what is so of a core, until memory is wanting
pub record IsCore {Units : Type 0} (V : View Units) (us : Units) (memory : MemoryInstance) (c : Core) : Type 0 where
  pub sound : IsSound V us memory c
  pub few : HasFewFrames c

-- ---- where the run stands

-- what the loader keeps
abbrev pub loader_of : Core → LoaderState
loader_of c = record { stages = c.stages; error = c.error; promoted = c.promoted.list }

abbrev pub stack_of : Core → List (Frame LoaderFrame)
stack_of c = marked_stack (frame_at c.frames.items) c.machine.stack.frames

-- what a machine is at says how the run stands
abbrev pub StandsAs : {Units : Type 0} → Loading Units → Core → LoadedState Units → Standing → Type 0
StandsAs D c s standing.Moving = (s.run.status ≡ Moving) × (s.run.stack ≡ stack_of c)
StandsAs D c s (standing.Asking entry count) = (call : HostCall) × (s.run.status ≡ Waits call) × (D.names entry ≡ Some call.host) × (s.run.stack ≡ stack_of c)
StandsAs D c s standing.Loading = ⊥
StandsAs D c s standing.Returned = s.run.status ≡ Returned
StandsAs D c s (standing.Trapped why) = s.run.status ≡ Trapped why
StandsAs D c s (standing.Exited code) = s.run.status ≡ Exited code
StandsAs D c s standing.Lost = ⊥

-- the run stands at this state
pub record IsState {Units : Type 0} (D : Loading Units) (c : Core) (us : Units) (memory : MemoryInstance) (s : LoadedState Units) : Type 0 where
  pub loader : s.loader ≡ loader_of c
  pub units : s.run.units ≡ us
  pub space : s.run.memory ≡ memory
  pub standing : StandsAs D c s c.machine.standing

-- ---- calls of the loader

-- The step of a state calls a function of the loader. The machine is past the call already, and the state isn't.
pub record IsCalling {Units : Type 0} (D : Loading Units) (c : Core) (s : LoadedState Units) : Type 0 where
  pub which : LoaderCall
  pub args : List ℕ
  pub moving : s.run.status ≡ Moving
  pub comes : loaded_next D s s.run.stack ≡ comes_to s (Some (Loads which args (stack_of c)))

-- the run stands at such a state
pub record IsAtCall {Units : Type 0} (D : Loading Units) (c : Core) (us : Units) (memory : MemoryInstance) (s : LoadedState Units) : Type 0 where
  pub loader : s.loader ≡ loader_of c
  pub units : s.run.units ≡ us
  pub space : s.run.memory ≡ memory
  pub call : IsCalling D c s

-- ---- one step

-- the arguments of a function of the loader, of which the first two are told
abbrev pub loader_arguments : LoaderCall → ℕ → ℕ → List ℕ
loader_arguments Dlopen first second = first ∷ second ∷ []
loader_arguments Dlsym first second = first ∷ second ∷ []
loader_arguments Dlclose first second = first ∷ []
loader_arguments Dlerror first second = []

-- a function of the loader is called next: the step comes to what the loader answers to these arguments
pub record AsksLoader {Units : Type 0} (D : Loading Units) (which : LoaderCall) (first second : ℕ) (memory : MemoryInstance) (s : LoadedState Units) : Type 0 where
  pub has_loader : D.view.has_loader ≡ true
  pub answer : next_answer D s ≡ D.answer which (loader_arguments which first second) memory s.loader

-- A step was made from a state and is told. Where it would be too deep, or a function of the loader is called, the run
-- stays.
abbrev pub Steps : {Units : Type 0} → Loading Units → Event → LoadedState Units → Core → Units → MemoryInstance → Type 0
Steps D event.Deep s new us memory = (loaded_too_deep D s ≡ true) × (new.machine.standing ≡ standing.Moving) × IsState D new us memory s
Steps D (event.Loader which first second) s new us memory =
    (new.machine.standing ≡ standing.Loading) × IsAtCall D new us memory s × AsksLoader D which first second memory s
Steps {Units} D e s new us memory =
    (loaded_too_deep D s ≡ false)
    × ((t : LoadedState Units) × (loaded_step D s ≡ Some t) × TellsStatus D.names e t.run.status × IsState D new us memory t)

-- The same of a step of code that the machine tells in few bytes; or memory was wanting; or it is left to be made with more care, and isn't
-- one of code.
abbrev pub QuickSteps : {Units : Type 0} → Loading Units → Done → LoadedState Units → Core → Units → MemoryInstance → Type 0
QuickSteps D done.Goes s new us memory = (new.machine.standing ≡ standing.Moving) × HasCodeOnTop s × Steps D event.Moved s new us memory
QuickSteps D done.Returned s new us memory = HasCodeOnTop s × Steps D event.Returned s new us memory
QuickSteps D (done.Trapped why) s new us memory = HasCodeOnTop s × Steps D (event.Trapped why) s new us memory
QuickSteps D done.Exited s new us memory = ⊥
QuickSteps D done.NoMemory s new us memory = MayWant s
QuickSteps D _ s new us memory = (new.machine.standing ≡ standing.Moving) × IsState D new us memory s × (IsCodeNext D s → ⊥)

-- the same from wherever the run stands, over what is seen before and after
abbrev pub StepsFrom : {Units : Type 0} → Loading Units → Event → Core → Seen Units → Core → Seen Units → Type 0
StepsFrom {Units} D e old before new after =
    (s : LoadedState Units) → IsState D old before.units before.memory s → Steps D e s new after.units after.memory

abbrev pub QuickStepsFrom : {Units : Type 0} → Loading Units → Done → Core → Seen Units → Core → Seen Units → Type 0
QuickStepsFrom {Units} D d old before new after =
    (s : LoadedState Units) → IsState D old before.units before.memory s → QuickSteps D d s new after.units after.memory

-- a step of code that passes no limit of depth, after which the run goes on by itself
abbrev pub CodeStep : {Units : Type 0} → Loading Units → LoadedState Units → LoadedState Units → Type 0
CodeStep D s t = HasCodeOnTop s × (loaded_too_deep D s ≡ false) × (loaded_step D s ≡ Some t) × (t.run.status ≡ Moving)

-- this is what one step more comes to; `Goes` says that none was made
abbrev pub StopsAt : {Units : Type 0} → Loading Units → Done → LoadedState Units → Core → Units → MemoryInstance → Type 0
StopsAt D d s new us memory =
    ((d ≡ done.Goes) × (new.machine.standing ≡ standing.Moving) × IsState D new us memory s) ⊎ ((d ≢ done.Goes) × QuickSteps D d s new us memory)

-- from wherever the run stands, so many steps, and then what one more comes to
abbrev pub RunsFrom : {Units : Type 0} → Loading Units → ℕ → Done → Core → Seen Units → Core → Seen Units → Type 0
RunsFrom {Units} D n d old before new after =
    (s : LoadedState Units) → IsState D old before.units before.memory s
    → (u : LoadedState Units) × Iterated (CodeStep D) n s u × StopsAt D d u new after.units after.memory

-- from wherever the run stands, this is whether the next step would pass a limit of depth
abbrev pub TellsDeep : {Units : Type 0} → Loading Units → Bool → Core → Seen Units → Type 0
TellsDeep {Units} D deep c w = (s : LoadedState Units) → IsState D c w.units w.memory s → deep ≡ loaded_too_deep D s

-- whether the first frame is the one that calls the entry
abbrev pub first_calls : Option Pending → Bool
first_calls None = false
first_calls (Some p) = calls_entry p.after

-- wherever the run stands, this is whether its entry was called and it goes on
abbrev pub TellsStarted : {Units : Type 0} → Loading Units → Bool → Core → Seen Units → Type 0
TellsStarted {Units} D started c w = (s : LoadedState Units) → IsState D c w.units w.memory s → started ≡ is_started s

-- from wherever the run stands the next step may want memory
abbrev pub WantsFrom : {Units : Type 0} → Loading Units → Core → Seen Units → Type 0
WantsFrom {Units} D c w = (s : LoadedState Units) → IsState D c w.units w.memory s → MayWant s

-- the step that calls a function of the loader was made, which came to this answer
abbrev pub AnsweredFrom : {Units : Type 0} → Loading Units → Event → LoaderAnswer → Core → Seen Units → Core → Type 0
AnsweredFrom {Units} D e answer old w new =
    (s : LoadedState Units) → IsAtCall D old w.units w.memory s → next_answer D s ≡ Some answer → Steps D e s new w.units w.memory

-- a number is given, the stages and the promoted members stay as they were, and the error is this
abbrev pub gives_number : Core → ℕ → ℕ → LoaderAnswer
gives_number c n error = Gives n (record (loader_of c) { error = error })

-- a member is opened with these tasks, which are followed by this
abbrev pub opens_member : List Task → After → LoaderAnswer
opens_member tasks after = Opens (record { tasks = tasks; after = after })

-- an answer was taken
abbrev pub TakenFrom : {Units : Type 0} → Loading Units → Answer → Core → Seen Units → Core → Seen Units → Type 0
TakenFrom {Units} D a old before new after =
    (s : LoadedState Units) → IsState D old before.units before.memory s → IsState D new after.units after.memory (with_run s (taken a s.run))

-- nothing has changed, and a mark is on top
abbrev pub IsMarkTold : {Units : Type 0} → Core → Seen Units → Core → Seen Units → Type 0
IsMarkTold old before new after = (new ≡ old) × (after ≡ before) × IsMarked old.machine

-- whether a call would be too deep
abbrev pub is_deep_event : Event → Bool
is_deep_event event.Deep = true
is_deep_event _ = false

-- whether a step was made
abbrev pub is_made : Event → Bool
is_made event.Deep = false
is_made (event.Loader which first second) = false
is_made (event.Marked tag) = false
is_made _ = true

abbrev pub is_mark : Event → Bool
is_mark (event.Marked tag) = true
is_mark _ = false

-- a function that a member defines
abbrev pub IsOwn : Ref → Type 0
IsOwn (Own unit f) = Unit {0}
IsOwn _ = ⊥

-- ---- the frame on top

-- there is a frame
abbrev pub AreFrames : Core → Type 0
AreFrames c = c.frames.items ≢ []

abbrev pub top_frame : Core → LoaderFrame
top_frame c = frame_at c.frames.items (length c.frames.items - 1)

abbrev pub first_of : List Task → Option Task
first_of [] = None
first_of (t ∷ ts) = Some t

abbrev pub first_task : LoaderFrame → Option Task
first_task f = first_of f.tasks

-- the next task is taken away, if there is one
pub record TakesTask (old new : Pending) : Type 0 where
  pub tasks : reverse new.tasks.items ≡ drop 1 (reverse old.tasks.items)
  pub after : new.after ≡ old.after

-- the next task on top is taken away, and the members have come to these stages
pub record Finishes (stages : List ℕ) (old new : Core) : Type 0 where
  pub machine : new.machine ≡ old.machine
  pub stages_are : new.stages ≡ stages
  pub error : new.error ≡ old.error
  pub promoted : new.promoted ≡ old.promoted
  pub frames : (p q : Pending) × (slice_get old.frames.items (length old.frames.items - 1) ≡ Some p)
      × (new.frames.items ≡ slice_set old.frames.items (length old.frames.items - 1) q) × TakesTask p q

-- the frame on top is taken away
pub record Drops (old new : Core) : Type 0 where
  pub machine : new.machine ≡ old.machine
  pub stages : new.stages ≡ old.stages
  pub error : new.error ≡ old.error
  pub promoted : new.promoted ≡ old.promoted
  pub frames : new.frames.items ≡ take (length old.frames.items - 1) old.frames.items

-- whether a member, by its stage, hasn't come so far
abbrev pub is_below : Option ℕ → ℕ → Bool
is_below None goal = false
is_below (Some stage) goal = nat_lt stage goal

-- whether the member of a task hasn't come so far as its phase
abbrev pub is_behind : Core → Task → Bool
is_behind c t = is_below (slice_get c.stages t.member) (stage_of t.phase)

-- the stages once the member of a task has come to the stage of its phase
abbrev pub raised_stages : Core → Task → List ℕ
raised_stages c t = slice_set c.stages t.member (stage_of t.phase)

-- ---- what placing answers

abbrev pub trap_of : Result (Unit {0}) Trap → Option Trap
trap_of (Ok u) = None
trap_of (Err why) = Some why

-- a member was placed so, and this was answered
abbrev pub Places : {Units : Type 0} → Option (Performed Units) → Result (Unit {0}) Trap → Units → MemoryInstance → Type 0
Places placed result us memory = placed ≡ Some (record { units = us; memory = memory; trap = trap_of result })

abbrev pub PlacesFrom : {Units : Type 0} → Loading Units → ℕ → Seen Units → Result (Unit {0}) Trap → Seen Units → Type 0
PlacesFrom D m before result after = Places (D.placed m before.units before.memory) result after.units after.memory

-- ---- the opening

-- the first frame has these tasks, and nothing was done
pub record IsOpening {Units : Type 0} (members : ℕ) (tasks : List Task) (us : Units) (memory : MemoryInstance) (s : LoadedState Units) : Type 0 where
  pub loader : s.loader ≡ record { stages = replicate members 0; error = 0; promoted = [] }
  pub units : s.run.units ≡ us
  pub space : s.run.memory ≡ memory
  pub status : s.run.status ≡ Moving
  pub stack : s.run.stack ≡ Marked (record { tasks = tasks; after = CallEntry }) ∷ []

abbrev pub OpensAt : {Units : Type 0} → Loading Units → ℕ → List Task → Seen Units → Core → Type 0
OpensAt {Units} D members tasks w c = (s : LoadedState Units) → IsOpening members tasks w.units w.memory s → IsState D c w.units w.memory s

-- ---- answers

-- an answer fits the host function that is waited for
abbrev pub FitsHost : {Units : Type 0} → View Units → MemoryInstance → Answer → Standing → Type 0
FitsHost V memory a (standing.Asking entry count) = IfSome (V.host entry) (λ ty. IsTrue (fits_results ty.results memory a))
FitsHost V memory a _ = ⊥
