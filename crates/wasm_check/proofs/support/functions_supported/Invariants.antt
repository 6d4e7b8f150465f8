use Rattle.std.proofs.Common.{◌≡◌, drop}
use Rattle.spec_execution.specs.spec_validation.Faults.{first_in, function_supported}
use Rattle.wasm_check.proofs.support.functions_supported.Given as goal

abbrev pub invariant-loop-n : goal.invariant-loop-n
invariant-loop-n l = first_in (function_supported l.m) l.n (drop l.n l.funcs) ≡ first_in (function_supported l.m) 0 l.funcs
