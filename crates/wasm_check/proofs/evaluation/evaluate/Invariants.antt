use Rattle.std.proofs.Common.{ℕ, Option, ◌≡◌, [], drop, take, reverse}
use Rattle.std.specs.List.{All}
use Rattle.wasm_form.specs.declared.instr.Instr.{out-Instr}
use Rattle.wasm_form.specs.declared.runtime.Ref.{Ref}
use Rattle.spec_execution.specs.spec_binary.Options.{◌>>=◌}
use Rattle.spec_execution.specs.spec_runtime.Constants.{after_constants}
use Rattle.wasm_check.specs.Constants.{values_of, known_globals, HasWord}
use Rattle.wasm_check.proofs.evaluation.evaluate.Given as goal

-- what the constants on the stack come to with what is left is what the whole comes to, and what was read is in range
abbrev pub invariant-loop-i : goal.invariant-loop-i
invariant-loop-i l = record {
  left : (functions : ℕ → Option Ref) → after_constants functions (known_globals l.fn.globals) l.fn.e.list []
      ≡ (values_of functions (reverse l.stack.items) >>= after_constants functions (known_globals l.fn.globals) (drop l.i-index l.i-items));
  words : All (λ i. HasWord l.fn.globals (out-Instr i)) (take l.i-index l.i-items);
}
