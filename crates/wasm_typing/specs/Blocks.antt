-- The second list of an `if`.
-- Serves the contracts of this crate, which follow Typing of `spec_validation`.
use Rattle.std.specs.Prelude.{List, [], Option, Some, None}
use Rattle.wasm_form.specs.declared.instr.Instr.{Instr}
use Rattle.wasm_form.specs.declared.instr.Expr.{Expr}

abbrev pub else_of : Option Expr → List Instr
else_of None = []
else_of (Some e) = e.list
