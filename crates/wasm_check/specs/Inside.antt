-- What is not supported, as it is looked for.
-- Serves the contracts of this crate, which follow Faults of `spec_validation`.
use Rattle.std.specs.Prelude.{◌≡◌, ℕ, Bool, true, List, map, Option, Some, None}
use Rattle.wasm_form.specs.declared.instr.Expr.{Expr}
use Rattle.wasm_form.specs.declared.module.Module.{Module}
use Rattle.spec_execution.specs.spec_validation.Faults.{Finding, is_function_supported, unsupported_of}

-- what is not supported in the second list of an `if`
abbrev pub unsupported_else : Module → ℕ → Option Expr → Finding
unsupported_else m n None = None
unsupported_else m n (Some e) = unsupported_of m n e.list

-- which of the types of the module are supported
pub record AreSupported (m : Module) (types : List Bool) : Type 0 where
  pub told : types ≡ map is_function_supported m.types

abbrev pub supported_or : Option Bool → Bool
supported_or None = true
supported_or (Some supported) = supported
