use Rattle.std.proofs.Common.{◌≡◌, drop}
use Rattle.spec_execution.specs.spec_validation.Faults.{first_in, body_typed}
use Rattle.wasm_check.specs.Heights.{HaveHeights}
use Rattle.wasm_check.proofs.bodies.bodies_typed.Given as goal

abbrev pub invariant-loop-n : goal.invariant-loop-n
invariant-loop-n l = record {
  left : first_in (body_typed l.m) l.n (drop l.n l.codes) ≡ first_in (body_typed l.m) 0 l.codes;
  heights : HaveHeights l.m l.n l.heights.items;
}
