use Rattle.std.proofs.Common.{◌≡◌, drop}
use Rattle.spec_execution.specs.spec_validation.Faults.{first_in, global_supported}
use Rattle.wasm_check.proofs.support.globals_supported.Given as goal

abbrev pub invariant-loop-n : goal.invariant-loop-n
invariant-loop-n l = first_in global_supported l.n (drop l.n l.globals) ≡ first_in global_supported 0 l.globals
