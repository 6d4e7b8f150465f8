use Rattle.std.proofs.Common.{◌≡◌, drop}
use Rattle.spec_execution.specs.spec_validation.Faults.{first_in, elem_supported}
use Rattle.wasm_check.proofs.support.elems_supported.Given as goal

abbrev pub invariant-loop-n : goal.invariant-loop-n
invariant-loop-n l = first_in elem_supported l.n (drop l.n l.elems) ≡ first_in elem_supported 0 l.elems
