-- Whether the instructions of an `else` name no data segment.
-- Serves the contracts of this crate, which follow WellFormed of `spec_binary`.
use Rattle.std.specs.Prelude.{Bool, true, Option, None, Some}
use Rattle.wasm_form.specs.declared.instr.Expr.{Expr}
use Rattle.spec_reading.specs.spec_binary.Trees.{every_of}
use Rattle.spec_reading.specs.spec_binary.WellFormed.{names_no_data}

abbrev pub other_names_no_data : Option Expr → Bool
other_names_no_data None = true
other_names_no_data (Some e) = every_of names_no_data e.list
