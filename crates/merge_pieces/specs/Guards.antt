-- What a guard costs.
-- This profile: docs/FORMATS.md, "What a merged module costs".
use Rattle.std.specs.Prelude.{◌≡◌, ◌<◌, ◌≤◌, ◌+◌, ◌^◌, ℕ, List, [], ◌∷◌, ◌++◌, length, slice_get, slice_set, Some, None}
use Rattle.wasm_form.specs.declared.instr.Instr.{Instr}
use Rattle.wasm_form.specs.declared.module.Module.{Module}
use Rattle.wasm_form.specs.declared.runtime.Value.{Value}
use Rattle.wasm_form.specs.declared.runtime.Value.TheVariants.{Num}
use Rattle.spec_execution.specs.spec_runs.Systems.{Moving}
use Rattle.spec_execution.specs.spec_runtime.Memories.{MemoryInstance}
use Rattle.spec_execution.specs.Activations.{Activation}
use Rattle.spec_execution.specs.Limits.{activations}
use Rattle.spec_execution.specs.Runs.{Frame}
use Rattle.spec_execution.specs.Runs as frames
use Rattle.spec_execution.specs.Instances.{ModuleParts}
use Rattle.spec_execution.specs.OneModule.{Starting, ModuleState}
use Rattle.merge_pieces.specs.Running.{Reaches}

-- an activation stands before this code, with these values on top
abbrev pub before_code : ModuleParts → MemoryInstance → Activation → List (Frame Starting) → List Value → List Instr → ModuleState
before_code us memory a under vs code = record {
  units = us;
  memory = memory;
  stack = frames.Active (record a { unit = 0; values = vs ++ a.values; rest = code ++ a.rest }) ∷ under;
  status = Moving;
}

-- in a block without values of its own, behind which the activation goes on
abbrev pub in_block : Activation → Activation
in_block a = record a { values = []; rest = []; levels = record { below = a.values; arity = 0; again = None; after = a.rest } ∷ a.levels }

-- Where the guard has reached the stage, five steps lead over the code. Where it is below, six raise it and lead to the work.
pub record GuardsWithin (guard stage : ℕ) (work code : List Instr) : Type 0 where
  pub passes : (wasm : Module) (us : ModuleParts) (memory : MemoryInstance) (k : ℕ) → slice_get us.globals guard ≡ Some (Num k) → k < 2 ^ 32
      → stage ≤ k → (a : Activation) (under : List (Frame Starting))
      → Reaches wasm (length (activations under) + 1) 5 (before_code us memory a under [] code) (before_code us memory a under [] [])
  pub begins : (wasm : Module) (us : ModuleParts) (memory : MemoryInstance) (k : ℕ) → slice_get us.globals guard ≡ Some (Num k) → k < 2 ^ 32
      → k < stage → (a : Activation) (under : List (Frame Starting))
      → Reaches wasm (length (activations under) + 1) 6 (before_code us memory a under [] code)
      (before_code (record us { globals = slice_set us.globals guard (Num stage) }) memory (in_block a) under [] work)
