use Rattle.std.proofs.Common.{◌≡◌, drop}
use Rattle.spec_execution.specs.spec_validation.Faults.{first_in, table_supported}
use Rattle.wasm_check.proofs.support.tables_supported.Given as goal

abbrev pub invariant-loop-n : goal.invariant-loop-n
invariant-loop-n l = first_in table_supported l.n (drop l.n l.tables) ≡ first_in table_supported 0 l.tables
