use Rattle.std.proofs.Common.{◌≡◌, ◌++◌, drop, map}
use Rattle.spec_execution.specs.spec_validation.Faults.{is_function_supported}
use Rattle.wasm_check.proofs.support.supported_types.Given as goal

abbrev pub invariant-loop-f : goal.invariant-loop-f
invariant-loop-f l = l.types.items ++ map is_function_supported (drop l.f-index l.m.types) ≡ map is_function_supported l.m.types
