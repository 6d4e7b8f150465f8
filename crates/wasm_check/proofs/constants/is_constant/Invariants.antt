use Rattle.std.proofs.Common.{◌≡◌, ◌≤◌, drop}
use Rattle.spec_execution.specs.spec_binary.Counted.{left}
use Rattle.spec_execution.specs.spec_validation.Counted.{step_of}
use Rattle.wasm_check.proofs.constants.is_constant.Given as goal

-- so many values lead with what is left to as many as the whole does
abbrev pub invariant-loop-i : goal.invariant-loop-i
invariant-loop-i l = record {
  left : left (step_of l.fn.m l.fn.t) l.fn.e.list 0 ≡ left (step_of l.fn.m l.fn.t) (drop l.i-index l.i-items) l.values;
  few : l.values ≤ l.i-index;
}
