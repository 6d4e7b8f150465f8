-- What is so of the module that begins where a run stands.
-- Part of the statement of laws: docs/LAWS.md, "Laws of the parts".
use Rattle.std.specs.Prelude.{◌≡◌, ℕ, [], ◌∷◌, Some, None, true, IsTrue, Ok}
use Rattle.spec_loading.specs.wasm_form.declared.module.Module.{Module}
use Rattle.spec_loading.specs.wasm_form.declared.runtime.Ref.TheVariants.{Own}
use Rattle.spec_loading.specs.spec_runs.Systems.{Moving}
use Rattle.spec_loading.specs.spec_binary.Indices.{Function, function_type, function_at, nullary, nullary_at, is_own}
use Rattle.spec_loading.specs.spec_validation.Faults.{fault}
use Rattle.spec_loading.specs.spec_runtime.Memories.{MemoryInstance}
use Rattle.spec_loading.specs.spec_runtime.Names.{HostNames}
use Rattle.spec_loading.specs.spec_execution.Instances.{ModuleParts, module_target}
use Rattle.spec_loading.specs.spec_execution.OneModule.{ModuleState, module_step, module_opening, imports_met, opened_state}
use Rattle.spec_loading.specs.spec_execution.Runs.{entered}
use Rattle.spec_loading.specs.spec_execution.Runs as frames
use Rattle.spec_loading.specs.spec_safety.Laws.{imports_functions}
use Rattle.merge_match.specs.SameCode.{SameCode}
use Rattle.snap_module.specs.Held.{Contents, held, held_parts, CanBeHeld}

-- it has the code of the module, and makes its very steps
abbrev pub HeldHasCode : Type 0
HeldHasCode = (m : Module) (entry : ℕ) (p : ModuleParts) (memory : MemoryInstance) (c : Contents) → SameCode m (held m entry p memory c)

abbrev pub HeldSteps : Type 0
HeldSteps = (m : Module) (entry : ℕ) (p : ModuleParts) (memory : MemoryInstance) (c : Contents) (s : ModuleState)
    → module_step (held m entry p memory c) s ≡ module_step m s

-- a function of its own without parameters and results, from which it begins
pub record IsStart (m : Module) (entry : ℕ) : Type 0 where
  pub own : is_own m entry ≡ true
  pub nullary : nullary_at (function_type m entry) ≡ true

-- it opens with the parts and the memory that it holds, where the module's imports are met
abbrev pub HeldOpens : Type 0
HeldOpens = (m : Module) (entry : ℕ) (p : ModuleParts) (memory : MemoryInstance) (c : Contents) (names : HostNames) → CanBeHeld m p memory c
    → IsStart m entry → imports_met m names m.imports ≡ Ok tt
    → module_opening (held m entry p memory c) names ≡ Ok (opened_state (held m entry p memory c) entry (held_parts p c) memory)

-- it is valid, where the module is
abbrev pub HeldIsValid : Type 0
HeldIsValid = (m : Module) (entry : ℕ) (p : ModuleParts) (memory : MemoryInstance) (c : Contents) → fault m ≡ None
    → IsTrue (imports_functions m) → CanBeHeld m p memory c → IsStart m entry → fault (held m entry p memory c) ≡ None

-- the state after the call of the entry
abbrev pub entered_state : ℕ → Function → ModuleParts → MemoryInstance → ModuleState
entered_state entry x p memory = record { units = p; memory = memory; stack = frames.Active (entered 0 entry x []) ∷ []; status = Moving }

-- its first step calls the entry
abbrev pub HeldEnters : Type 0
HeldEnters = (m : Module) (entry : ℕ) (p : ModuleParts) (memory : MemoryInstance) (c : Contents) (x : Function)
    → module_target m entry ≡ Some (Own 0 entry) → function_at m entry ≡ Some x → x.ty ≡ nullary
    → module_step (held m entry p memory c) (opened_state (held m entry p memory c) entry (held_parts p c) memory)
    ≡ Some (entered_state entry x (held_parts p c) memory)
