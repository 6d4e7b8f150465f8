use Rattle.std.proofs.Common.{◌≡◌, drop}
use Rattle.spec_execution.specs.spec_validation.Faults.{unsupported_of}
use Rattle.wasm_check.proofs.inside.+scan.Given as goal

abbrev pub invariant-instrs_supported-loop-i : goal.invariant-instrs_supported-loop-i
invariant-instrs_supported-loop-i l = unsupported_of l.m l.n (drop l.i-index l.instrs) ≡ unsupported_of l.m l.n l.instrs
