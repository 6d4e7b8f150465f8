use Rattle.std.proofs.Common.{◌≡◌, drop}
use Rattle.spec_execution.specs.spec_validation.Faults.{first_in, body_supported}
use Rattle.wasm_check.proofs.inside.bodies_supported.Given as goal

abbrev pub invariant-loop-n : goal.invariant-loop-n
invariant-loop-n l = first_in (body_supported l.m) l.n (drop l.n l.codes) ≡ first_in (body_supported l.m) 0 l.codes
