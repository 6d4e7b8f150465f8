-- A module in its run: its instance, the machine, and what is still to be called.
-- Serves the contracts of this crate, which follow OneModule of `spec_execution`.
use Rattle.std.specs.Prelude.{◌≡◌, ◌≢◌, ◌≤◌, ◌⊎◌, ℕ, List, [], ◌∷◌, Some, Bool, true, false, IfSome, IsTrue}
use Rattle.spec_safety.specs.spec_runs.Systems.{Moving, Waits, Returned, Exited, Trapped}
use Rattle.wasm_form.specs.declared.module.Module.{Module}
use Rattle.wasm_form.specs.declared.runtime.Answer.{Answer}
use Rattle.spec_safety.specs.spec_binary.Indices.{nullary, function_type}
use Rattle.spec_safety.specs.spec_runtime.Memories.{MemoryInstance}
use Rattle.spec_safety.specs.spec_runtime.Hosts.{HostCall, fits_results}
use Rattle.spec_safety.specs.spec_binary.IndexSpaces.{imported_count}
use Rattle.spec_safety.specs.spec_execution.Instances.{function_named, module_view, module_hosts}
use Rattle.spec_safety.specs.spec_execution.Runs.{is_running, Frame, Marked, call}
use Rattle.spec_safety.specs.spec_execution.OneModule.{Starting, ModuleState, module_step, module_too_deep}
use Rattle.wasm_step.specs.declared.done.Done.{Done}
use Rattle.wasm_step.specs.declared.done.Done.TheVariants as done
use Rattle.wasm_machine.specs.Machines.{MachineState, IsOver, Told}
use Rattle.wasm_machine.specs.Iterated.{Iterated}
use Rattle.wasm_machine.specs.Marks.{marked_stack, AreMarks}
use Rattle.wasm_machine.specs.Steps.{TellsStatus}
use Rattle.wasm_machine.specs.declared.machine.Standing.{Standing}
use Rattle.wasm_machine.specs.declared.machine.Standing.TheVariants as standing
use Rattle.wasm_machine.specs.declared.event.Event.{Event}
use Rattle.wasm_machine.specs.declared.event.Event.TheVariants as event
use Rattle.wasm_single.specs.Singles.{MayWant}
use Rattle.wasm_single.specs.declared.bare_run.Core.{Core}
use Rattle.wasm_single.specs.declared.bare_run.Phase.{Phase}
use Rattle.wasm_single.specs.declared.bare_run.Phase.TheVariants as phase

-- ---- the call stack

-- the machine's call stack, where each mark stands for what is still to be called
abbrev pub seen : Starting → List (Frame ℕ) → List (Frame Starting)
seen starting = marked_stack (λ tag. starting)

abbrev pub starting_of : Core → Starting
starting_of c = record { start = c.start; entry = c.entry }

-- the call stack of the run; what is to be called stands there before a mark is put
abbrev pub stack_in : Phase → Starting → List (Frame ℕ) → List (Frame Starting)
stack_in phase.Opened starting frames = Marked starting ∷ []
stack_in phase.Marked starting frames = seen starting frames
stack_in phase.Entered starting frames = seen starting frames

abbrev pub stack_of : Core → List (Frame Starting)
stack_of c = stack_in c.phase (starting_of c) c.machine.stack.frames

-- ---- what is so of it

-- one mark lies at the bottom before the entry is called, and none after it
abbrev pub IsInPhase : Phase → List (Frame ℕ) → Type 0
IsInPhase phase.Opened frames = frames ≡ []
IsInPhase phase.Marked frames = AreMarks 1 frames
IsInPhase phase.Entered frames = (frames ≢ []) × AreMarks 0 frames

-- a function that may be called first
abbrev pub IsStartable : Module → ℕ → Type 0
IsStartable m f = function_type m f ≡ Some nullary

-- it goes on or waits: the call stack is there
abbrev pub IsLive : Standing → List (Frame ℕ) → Phase → Type 0
IsLive standing.Moving frames p = IsInPhase p frames
IsLive (standing.Asking entry count) frames p = IsInPhase p frames × (p ≢ phase.Opened)
IsLive standing.Loading frames p = ⊥
IsLive standing.Lost frames p = ⊥
IsLive _ frames p = Unit {0}

-- What is so of it, until memory is wanting: the instance is one of the module, whose view is typed, the machine over it is sound in its part,
-- and what is still to be called can be. The entry is a function of the module's own.
pub record IsCore (c : Core) : Type 0 where
  pub fixed : module_view c.instance.wasm ≡ module_view c.checked.now
  pub over : IsOver (module_view c.checked.now) c.instance.parts c.instance.memory c.machine
  pub live : IsLive c.machine.standing c.machine.stack.frames c.phase
  pub start : IfSome c.start (IsStartable c.checked.now)
  pub entry : IsStartable c.checked.now c.entry
  pub own : imported_count c.checked.now ≤ c.entry

-- ---- where the run stands

-- what a machine is at says how the run stands
abbrev pub StandsAs : Core → ModuleState → Standing → Type 0
StandsAs c s standing.Moving = (s.status ≡ Moving) × (s.stack ≡ stack_of c)
StandsAs c s (standing.Asking entry count) = (call : HostCall) × (s.status ≡ Waits call) × (module_hosts c.checked.now entry ≡ Some call.host) × (s.stack ≡ stack_of c)
StandsAs c s standing.Loading = ⊥
StandsAs c s standing.Returned = s.status ≡ Returned
StandsAs c s (standing.Trapped why) = s.status ≡ Trapped why
StandsAs c s (standing.Exited code) = s.status ≡ Exited code
StandsAs c s standing.Lost = ⊥

-- the run stands at this state
pub record IsState (c : Core) (s : ModuleState) : Type 0 where
  pub units : s.units ≡ c.instance.parts
  pub memory : s.memory ≡ c.instance.memory
  pub standing : StandsAs c s c.machine.standing

-- ---- one step

-- The next step is one of code that is on top: it passes no limit of depth, and the run goes on by itself after it.
abbrev pub IsCodeNext : Module → ModuleState → Type 0
IsCodeNext m s = (s.status ≡ Moving) × (is_running s.stack ≡ true) × (module_too_deep m s ≡ false) × ((t : ModuleState) × (module_step m s ≡ Some t) × (t.status ≡ Moving))

-- A step was made from a state and is told. Where it would be too deep the run stays.
abbrev pub Steps : Event → ModuleState → Core → Type 0
Steps event.Deep s new = (module_too_deep new.checked.now s ≡ true) × (new.machine.standing ≡ standing.Moving) × IsState new s
Steps e s new = (module_too_deep new.checked.now s ≡ false) × ((t : ModuleState) × (module_step new.checked.now s ≡ Some t) × TellsStatus (module_hosts new.checked.now) e t.status × IsState new t)

-- the same of a step that the machine tells in few bytes; or it is left to be made with more care, and isn't one of code
abbrev pub QuickSteps : Done → ModuleState → Core → Type 0
QuickSteps done.Goes s new = (new.machine.standing ≡ standing.Moving) × Steps event.Moved s new
QuickSteps done.Returned s new = Steps event.Returned s new
QuickSteps (done.Trapped why) s new = Steps (event.Trapped why) s new
QuickSteps done.Exited s new = ⊥
QuickSteps done.NoMemory s new = MayWant s
QuickSteps _ s new = (new.machine.standing ≡ standing.Moving) × IsState new s × (IsCodeNext new.checked.now s → ⊥)

-- a step that passes no limit of depth, after which the run goes on by itself
abbrev pub CodeStep : Module → ModuleState → ModuleState → Type 0
CodeStep m s t = (module_too_deep m s ≡ false) × (module_step m s ≡ Some t) × (t.status ≡ Moving)

-- this is what one step more comes to; `Goes` says that none was made
abbrev pub StopsAt : Done → ModuleState → Core → Type 0
StopsAt d s new = ((d ≡ done.Goes) × (new.machine.standing ≡ standing.Moving) × IsState new s) ⊎ ((d ≢ done.Goes) × QuickSteps d s new)

-- so many steps, and then what one more comes to
abbrev pub RunsTo : ℕ → Done → ModuleState → Core → Type 0
RunsTo n d s new = (u : ModuleState) × Iterated (CodeStep new.checked.now) n s u × StopsAt d u new

-- ---- calls and answers

-- whether a call was begun: it isn't too deep
abbrev pub is_begun : Event → Bool
is_begun event.Deep = false
is_begun _ = true

abbrev pub is_mark : Event → Bool
is_mark (event.Marked tag) = true
is_mark _ = false

-- a function is called over what is on the call stack
abbrev pub Calls : ℕ → Core → Event → MachineState → Type 0
Calls f old e new =
    Told (module_view old.checked.now) e (call (module_view old.checked.now) old.instance.parts old.instance.memory (λ _. old.machine.stack.frames) [] (function_named old.checked.now f)) old.machine new
    (record { old_units = old.instance.parts; old_memory = old.instance.memory; new_units = old.instance.parts; new_memory = old.instance.memory })

-- an answer fits the host function that is waited for
abbrev pub FitsHost : Module → MemoryInstance → Answer → Standing → Type 0
FitsHost m memory a (standing.Asking entry count) = IfSome (module_hosts m entry) (λ h. IsTrue (fits_results h.ty.results memory a))
FitsHost m memory a _ = ⊥

-- the run waits for an answer, and this one fits
abbrev pub MayTake : Core → Answer → Type 0
MayTake c a = FitsHost c.checked.now c.instance.memory a c.machine.standing
