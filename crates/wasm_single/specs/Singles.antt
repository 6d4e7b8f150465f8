-- The run of one module, as contracts see it.
-- Serves the contracts of this crate, which follow OneModule of `spec_execution`.
use Rattle.std.specs.Prelude.{◌≡◌, List, [], ◌∷◌, Result, Ok, Err, IsTrue}
use Rattle.wasm_form.specs.declared.module.Module.{Module}
use Rattle.spec_safety.specs.spec_runtime.Names.{HostNames}
use Rattle.spec_safety.specs.spec_runtime.Recorded.{Recorded}
use Rattle.spec_safety.specs.spec_runs.Systems.{Moving}
use Rattle.spec_safety.specs.spec_execution.Runs.{Frame, Active, Marked}
use Rattle.spec_safety.specs.spec_execution.Instances.{module_hosts}
use Rattle.spec_safety.specs.spec_execution.OneModule.{Starting, ModuleState, module_opening, module_system, module_too_deep}
use Rattle.spec_safety.specs.spec_runtime.Courses.{Course, no_steps, state_at}
use Rattle.spec_safety.specs.spec_execution.declared.fault.SingleFault.{SingleFault}
use Rattle.wasm_machine.specs.Machines.{may_grow_at}
use Rattle.wasm_single.specs.Starts.{IsTold, opened}

-- the module, and what is recorded of its run
pub record SingleRun : Type 0 where
  pub wasm : Module
  pub run : Recorded

-- the course of a module from its opening state
abbrev pub module_course : Module → ModuleState → Course
module_course m opening = record { system = module_system m; deep = module_too_deep m; opening = opening; host = module_hosts m }

-- ---- where memory may be wanting

-- a call that starts the run is next, or code that begins with a call or a growth
abbrev pub CallsOrGrows : List (Frame Starting) → Type 0
CallsOrGrows [] = ⊥
CallsOrGrows (Active a ∷ frames) = IsTrue (may_grow_at a.rest)
CallsOrGrows (Marked starting ∷ frames) = Unit {0}

-- the next step may want memory
abbrev pub MayWant : ModuleState → Type 0
MayWant s = (s.status ≡ Moving) × CallsOrGrows s.stack

-- so it is where the recorded steps of the run lead
abbrev pub MayWantAt : Module → Recorded → Type 0
MayWantAt m x = (opening : ModuleState) × (opened m ≡ Ok opening) × MayWant (state_at (module_course m opening) x)

-- ---- the opening

abbrev pub new_run : Module → SingleRun
new_run m = record { wasm = m; run = no_steps }

-- the run of an opened module that has made no step; or why it isn't opened
abbrev pub Loads : Module → HostNames → Result SingleRun SingleFault → Type 0
Loads m names (Ok s) = (s ≡ new_run m) × ((opening : ModuleState) × (module_opening m names ≡ Ok opening))
Loads m names (Err why) = IsTold (module_opening m names) why
