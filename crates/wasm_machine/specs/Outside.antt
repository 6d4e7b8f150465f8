-- What an instruction calls, and a call that leaves the code.
-- Serves the contracts of this crate, which follow Runs of `spec_execution`.
use Rattle.std.specs.Prelude.{◌≡◌, ◌<◌, ◌≤◌, ℕ, List, ◌∷◌, length, true, Option, Some, None}
use Rattle.wasm_form.specs.declared.instr.Instr.{Instr}
use Rattle.wasm_form.specs.declared.instr.Instr.TheOpen as Open
use Rattle.wasm_form.specs.declared.instr.Expr.{Expr}
use Rattle.wasm_form.specs.declared.index.IndexForm.{IndexForm}
use Rattle.wasm_form.specs.declared.index.IndexForm.TheVariants.{Call}
use Rattle.wasm_form.specs.Index.{index_form}
use Rattle.spec_safety.specs.spec_runtime.Memories.{MemoryInstance}
use Rattle.spec_safety.specs.spec_execution.Activations.{Activation}
use Rattle.spec_safety.specs.spec_execution.Views.{View}
use Rattle.spec_safety.specs.spec_execution.Ranges.{Exists}
use Rattle.spec_safety.specs.spec_execution.Runs.{Frame, Active, call, calling}
use Rattle.wasm_machine.specs.Machines.{next_of, past_call, is_outside}
use Rattle.wasm_machine.specs.declared.calls.OutsideCall.{OutsideCall}
use Rattle.wasm_machine.specs.declared.calls.Callee.{Callee}
use Rattle.wasm_machine.specs.declared.calls.Callee.TheVariants as callee

abbrev pub callee_form : ℕ → Option IndexForm → Option Callee
callee_form f (Some Call) = Some (callee.Function f)
callee_form f _ = None

-- what an instruction calls
abbrev pub callee_of : Open.Instr-F Instr Expr → Option Callee
callee_of (Open.Index op f) = callee_form f (index_form op)
callee_of (Open.CallIndirect ty table) = Some (callee.Entry ty table)
callee_of _ = None

-- the next step of the activation is this call of a function outside
pub record IsOutsideCall {Units : Type 0} (V : View Units) (us : Units) (memory : MemoryInstance) (a : Activation) (o : OutsideCall) : Type 0 where
  pub outside : is_outside o.target ≡ true
  pub exists : Exists V o.target
  pub some : 0 < length a.rest
  pub above : o.above ≤ length a.values
  pub next : (frames : List (Frame ℕ)) → next_of V us memory (Active a ∷ frames) ≡ call V us memory (calling (past_call a o.above) frames) (past_call a o.above).values o.target
