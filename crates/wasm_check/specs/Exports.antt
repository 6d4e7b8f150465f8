-- The function that a name is exported as.
-- Serves the contracts of this crate, which follow Exports of `spec_binary`.
use Rattle.std.specs.Prelude.{ℕ, List, Option}
use Rattle.wasm_form.specs.declared.module.Export.{Export}
use Rattle.spec_execution.specs.spec_binary.Options.{◌>>=◌}
use Rattle.spec_execution.specs.spec_binary.Exports.{exported_as, exported_function}

abbrev pub named_function : List ℕ → List Export → Option ℕ
named_function name exports = exported_as name exports >>= exported_function
