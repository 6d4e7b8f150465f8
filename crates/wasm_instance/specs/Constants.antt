-- The values of constant expressions.
-- Serves the contracts of this crate, which follow Constants of `spec_runtime`.
use Rattle.std.specs.Prelude.{ℕ, Some, None}
use Rattle.wasm_form.specs.declared.runtime.Value.{Value}
use Rattle.wasm_form.specs.declared.runtime.Value.TheVariants.{Num, Func}
use Rattle.wasm_check.specs.declared.value.Constant.{Constant}
use Rattle.wasm_check.specs.declared.value.Constant.TheVariants as constant
use Rattle.wasm_instance.specs.Imports.{function_after}

-- a constant as a value, where so many functions are imported
abbrev pub value_of : ℕ → Constant → Value
value_of imported (constant.Num n) = Num n
value_of imported (constant.Func None) = Func None
value_of imported (constant.Func (Some f)) = Func (Some (function_after imported f))
