-- How runs of pieces of code are put together.
use Rattle.std.proofs.Common.{◌≡◌, ℕ, suc, ◌+◌, ◌≤◌, length, Some, arith}
use Rattle.wasm_form.specs.declared.module.Module.{Module}
use Rattle.spec_execution.specs.spec_runs.Systems.{Moving}
use Rattle.spec_execution.specs.Limits.{activations}
use Rattle.spec_execution.specs.OneModule.{ModuleState, module_step}
use Rattle.merge_pieces.specs.Running.{Reaches, there, goes}

-- what takes no more than m steps takes no more than n
pub reaches_more : {wasm : Module} {d m n : ℕ} {t u : ModuleState} → m ≤ n → Reaches wasm d m t u → Reaches wasm d n t u
reaches_more le there = there
reaches_more le (goes lt low moving e more) = goes (omega (arith, le, lt)) low moving e more

pub reaches_deeper : {wasm : Module} {d d' n : ℕ} {t u : ModuleState} → d ≤ d' → Reaches wasm d n t u → Reaches wasm d' n t u
reaches_deeper le there = there
reaches_deeper le (goes lt low moving e more) = goes lt (omega (arith, le, low)) moving e (reaches_deeper le more)

pub reaches_then : {wasm : Module} {d a b : ℕ} {t u v : ModuleState} → Reaches wasm d a t u → Reaches wasm d b u v → Reaches wasm d (a + b) t v
reaches_then there b = reaches_more (omega arith) b
reaches_then (goes lt low moving e more) b = goes (omega (arith, lt)) low moving e (reaches_then more b)

-- one step more
pub one_more : {wasm : Module} {d n : ℕ} {t u v : ModuleState} → length (activations t.stack) ≤ d → t.status ≡ Moving → module_step wasm t ≡ Some u
    → Reaches wasm d n u v → Reaches wasm d (suc n) t v
one_more low moving e more = goes (omega arith) low moving e more

pub one_step : {wasm : Module} {d : ℕ} {t u : ModuleState} → length (activations t.stack) ≤ d → t.status ≡ Moving → module_step wasm t ≡ Some u
    → Reaches wasm d 1 t u
one_step low moving e = goes {m = 0} (omega arith) low moving e there
