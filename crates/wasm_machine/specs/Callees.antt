-- What a call names, and the function that it calls.
-- Serves the contracts of this crate, which follow Runs of `spec_execution`.
use Rattle.std.specs.Prelude.{◌≡◌, ◌<◌, ℕ, List, Bool, Option, Some, None, IsSome, if◌then◌else◌, Result, Ok, Err}
use Rattle.wasm_form.specs.declared.types.FuncType.{FuncType}
use Rattle.wasm_form.specs.declared.runtime.Ref.{Ref}
use Rattle.wasm_form.specs.declared.runtime.Trap.{Trap}
use Rattle.wasm_form.specs.declared.runtime.Trap.TheVariants as trap
use Rattle.wasm_form.specs.declared.runtime.Value.{Value}
use Rattle.spec_safety.specs.spec_binary.Options.{◌>>=◌}
use Rattle.spec_safety.specs.spec_binary.SameTypes.{same_function_type}
use Rattle.spec_safety.specs.spec_runtime.Numerics.{W32}
use Rattle.spec_safety.specs.spec_runtime.Memories.{MemoryInstance}
use Rattle.spec_safety.specs.spec_runtime.Tables.{TableInstance, entry_at}
use Rattle.spec_safety.specs.spec_execution.Values.{low}
use Rattle.spec_safety.specs.spec_execution.Activations.{Activation, Move}
use Rattle.spec_safety.specs.spec_execution.Views.{View, Counts, type_of}
use Rattle.spec_safety.specs.spec_execution.Ranges.{Exists}
use Rattle.spec_safety.specs.spec_execution.Runs.{Frame, Traps, call, calling, carried_out}
use Rattle.wasm_step.specs.Primitives.{number_on}
use Rattle.wasm_machine.specs.Machines.{past_call, direct, indirect, is_outside, names_outside, entry_is_outside}
use Rattle.wasm_machine.specs.declared.calls.Callee.{Callee}
use Rattle.wasm_machine.specs.declared.calls.Callee.TheVariants as callee

-- the move of a call
abbrev pub callee_move : Callee → Activation → Move
callee_move (callee.Function f) a = direct f a
callee_move (callee.Entry ty table) a = indirect ty table a

-- how many values stand above its arguments
abbrev pub above_of : Callee → ℕ
above_of (callee.Function f) = 0
above_of (callee.Entry ty table) = 1

-- what it names is there
abbrev pub IsNamed : Counts → Callee → Type 0
IsNamed c (callee.Function f) = f < c.functions
IsNamed c (callee.Entry ty table) = (ty < c.types) × (table < c.tables)

-- the index of an entry is on top
abbrev pub HasIndex : List Value → Callee → Type 0
HasIndex vs (callee.Function f) = Unit {0}
HasIndex vs (callee.Entry ty table) = IsSome (number_on vs)

abbrev pub is_outside_callee : {Units : Type 0} → View Units → Units → Activation → Callee → Bool
is_outside_callee V us a (callee.Function f) = names_outside V a f
is_outside_callee V us a (callee.Entry ty table) = entry_is_outside V us a ty table

-- the function of an entry that has to be of a type, or the trap of its call
abbrev pub entry_result : {Units : Type 0} → View Units → FuncType → Option (Option Ref) → Option (Result Ref Trap)
entry_result V ty None = Some (Err trap.TableBounds)
entry_result V ty (Some None) = Some (Err trap.NullEntry)
entry_result V ty (Some (Some r)) = type_of V r >>= λ found. if same_function_type found ty then Some (Ok r) else Some (Err trap.WrongType)

-- the same of a table and a type of a unit
pub record IsEntry {Units : Type 0} (V : View Units) (us : Units) (unit ty table n : ℕ) (result : Result Ref Trap) : Type 0 where
  pub entries : TableInstance
  pub wanted : FuncType
  pub table_is : Some entries ≡ V.table us unit table
  pub type_is : Some wanted ≡ V.declared unit ty
  pub result_is : Some result ≡ entry_result V wanted (entry_at entries (low W32 n))

-- a call comes to a call of this function, or to this trap
abbrev pub IsCalled : {Units : Type 0} → View Units → Units → MemoryInstance → Callee → Activation → Result Ref Trap → Type 0
IsCalled V us memory k a (Ok r) =
    Exists V r
    × (is_outside_callee V us a k ≡ is_outside r)
    × ((frames : List (Frame ℕ)) → carried_out V us memory frames (callee_move k a) ≡ call V us memory (calling (past_call a (above_of k)) frames) (past_call a (above_of k)).values r)
IsCalled V us memory k a (Err why) = (frames : List (Frame ℕ)) → carried_out V us memory frames (callee_move k a) ≡ Some (Traps why)
