-- Runs of pieces of code in a module: how many steps they make, and how deep the call stack is on the way.
-- Part of the statement of laws: docs/LAWS.md, "Laws of the parts".
use Rattle.std.specs.Prelude.{◌≡◌, ℕ, ◌<◌, ◌≤◌, length, Some}
use Rattle.wasm_form.specs.declared.module.Module.{Module}
use Rattle.spec_execution.specs.spec_runs.Systems.{Moving}
use Rattle.spec_execution.specs.Limits.{activations}
use Rattle.spec_execution.specs.OneModule.{ModuleState, module_step}

-- at most so many silent steps lead from t to u, and no state before u has more than d activations
pub data Reaches (wasm : Module) (d : ℕ) : ℕ → ModuleState → ModuleState → Type 0 where
  there : {n : ℕ} {t : ModuleState} → Reaches wasm d n t t
  goes : {m n : ℕ} {t u v : ModuleState} → m < n → length (activations t.stack) ≤ d → t.status ≡ Moving → module_step wasm t ≡ Some u
      → Reaches wasm d m u v → Reaches wasm d n t v
