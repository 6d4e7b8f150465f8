-- What each instruction of a constant expression does to the number of values there. All of them have one type, so that an expression is
-- typed just where counting says so (a law).
-- Serves the contracts of `wasm_check`: docs/DECISIONS.md, "The binary format".
use Rattle.std.specs.Prelude.{ℕ, Option, Some, None, if◌then◌else◌}
use Rattle.spec_binary.specs.wasm_form.declared.types.ValType.{ValType}
use Rattle.spec_binary.specs.wasm_form.declared.types.ValType.TheVariants.{I32, I64}
use Rattle.spec_binary.specs.wasm_form.declared.instr.Instr.{Instr, out-Instr}
use Rattle.spec_binary.specs.wasm_form.declared.instr.Instr.TheOpen as Open
use Rattle.spec_binary.specs.wasm_form.declared.instr.Expr.{Expr}
use Rattle.spec_binary.specs.wasm_form.declared.module.Module.{Module}
use Rattle.spec_binary.specs.wasm_form.Ranges.{within}
use Rattle.spec_binary.specs.Options.{◌>>=◌}
use Rattle.spec_binary.specs.SameTypes.{same_type}
use Rattle.spec_binary.specs.Counted.{Step, Puts, Joins, Other}
use Rattle.spec_validation.specs.Faults.{constant_step}

-- the type of the values that an operator takes, and of what it gives
abbrev pub arithmetic_type : ℕ → Option ValType
arithmetic_type op = if within 0x6A 0x6C op then Some I32 else if within 0x7C 0x7E op then Some I64 else None

-- it makes one value of two, or puts one on the stack
pub data Kind : Type 0 where
  JoinsTwo PutsOne : ValType → Kind

abbrev pub kind_of : Module → Open.Instr-F Instr Expr → Option Kind
kind_of m (Open.Plain op) = arithmetic_type op >>= λ u. Some (JoinsTwo u)
kind_of m x = constant_step m x >>= λ u. Some (PutsOne u)

-- what an instruction of a kind does to values of a type
abbrev pub step_at : ValType → Option Kind → Step
step_at t None = Other
step_at t (Some (JoinsTwo u)) = if same_type t u then Joins else Other
step_at t (Some (PutsOne u)) = if same_type t u then Puts else Other

abbrev pub step_of : Module → ValType → Instr → Step
step_of m t i = step_at t (kind_of m (out-Instr i))
