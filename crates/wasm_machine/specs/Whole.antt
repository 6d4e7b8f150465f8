-- What a machine is seen as.
-- Serves the contracts of this crate, which follow Runs of `spec_execution`.
use Rattle.std.specs.Prelude.{◌≡◌, List, true}
use Rattle.wasm_machine.specs.declared.machine.Machine.TheInside.{Inside}
use Rattle.wasm_machine.specs.declared.machine.Standing.{Standing}
use Rattle.wasm_machine.specs.declared.machine.Standing.TheVariants as standing
use Rattle.wasm_step.specs.Tops.{Top}
use Rattle.wasm_step.specs.Primitives.{HasSpare}
use Rattle.wasm_machine.specs.Stacks.{empty_stack, joined, is_live, IsJoined}
use Rattle.wasm_machine.specs.declared.callers.Caller.{Caller}
use Rattle.wasm_machine.specs.Machines.{MachineState}

abbrev pub machine_of : Inside → MachineState
machine_of m = record { stack = joined m.callers m.top; standing = m.standing }

-- there is room for what is waited for; where memory was wanting nothing is left
abbrev pub IsAwaited : List Caller → Top → Standing → Type 0
IsAwaited cs t (standing.Asking entry count) = is_live t ≡ true → HasSpare t count
IsAwaited cs t standing.Loading = (is_live t ≡ true) × HasSpare t 1
IsAwaited cs t standing.Lost = joined cs t ≡ empty_stack
IsAwaited cs t _ = Unit {0}

pub record IsMachine (m : Inside) : Type 0 where
  pub joined : IsJoined m.callers m.top
  pub awaited : IsAwaited m.callers m.top m.standing
