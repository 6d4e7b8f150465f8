-- Runs of pieces of code with their steps counted, wherever the pieces stand in functions of a module.
-- Part of the statement of laws: docs/LAWS.md, "Laws of the parts".
use Rattle.std.specs.Prelude.{ℕ, suc, ◌+◌, List, [], ◌∷◌, ◌++◌, length}
use Rattle.wasm_form.specs.declared.instr.Instr.{Instr}
use Rattle.wasm_form.specs.declared.module.Module.{Module}
use Rattle.wasm_form.specs.declared.runtime.Value.{Value}
use Rattle.spec_execution.specs.spec_runs.Systems.{Moving}
use Rattle.spec_execution.specs.spec_runtime.Memories.{MemoryInstance}
use Rattle.spec_execution.specs.Activations.{Level, Activation}
use Rattle.spec_execution.specs.Limits.{activations}
use Rattle.spec_execution.specs.Runs.{Frame}
use Rattle.spec_execution.specs.Runs as frames
use Rattle.spec_execution.specs.Instances.{ModuleParts}
use Rattle.spec_execution.specs.OneModule.{Starting, ModuleState}
use Rattle.merge_pieces.specs.Running.{Reaches}

-- The module stands before this code, with these values on top: an activation has other values below them, and goes on behind the code, over
-- other frames.
abbrev pub standing : ModuleParts → MemoryInstance → Activation → List (Frame Starting) → List Value → List Instr → ModuleState
standing us memory a under vs code = record {
  units = us;
  memory = memory;
  stack = frames.Active (record a { unit = 0; values = vs ++ a.values; rest = code ++ a.rest }) ∷ under;
  status = Moving;
}

-- Wherever this code stands, with these values on top, at most so many steps lead to its end, with those values on top, and nothing else is
-- changed. It may call functions, h deep.
pub record DoesWithin (wasm : Module) (h n : ℕ) (code : List Instr) (us : ModuleParts) (memory : MemoryInstance) (vs ws : List Value) : Type 0 where
  pub runs : (a : Activation) (under : List (Frame Starting))
      → Reaches wasm (length (activations under) + suc h) n (standing us memory a under vs code) (standing us memory a under ws [])

-- Wherever this code stands, with these locals, at most so many steps lead to other code of the same activation, in whatever blocks, and no
-- function is called.
pub record Comes (wasm : Module) (n : ℕ) (code : List Instr) (us : ModuleParts) (memory : MemoryInstance) (ls : List Value) (end : List Instr) : Type 0 where
  pub runs : (a : Activation) (under : List (Frame Starting)) → (below : List Value) × (more : List Instr) × (levels : List Level)
      × Reaches wasm (length (activations under) + 1) n (standing us memory (record a { locals = ls }) under [] code)
      (standing us memory (record a { locals = ls; values = below; rest = more; levels = levels }) under [] end)
