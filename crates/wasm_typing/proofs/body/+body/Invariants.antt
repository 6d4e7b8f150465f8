use Rattle.std.proofs.Common.{◌≡◌, drop}
use Rattle.spec_validation.specs.Typing.{afters}
use Rattle.wasm_typing.specs.Contexts.{context_of}
use Rattle.wasm_typing.specs.States.{reached, labels_of}
use Rattle.wasm_typing.proofs.body.+body.Given as goal

abbrev pub invariant-sequence-loop-i : goal.invariant-sequence-loop-i
invariant-sequence-loop-i l = record {
  levels : l.at.levels ≡ l.fn.at.levels;
  goes : reached l.at (afters (context_of l.scope.env) (drop l.i-index l.instrs) (labels_of l.at.levels) l.at.stack)
      ≡ reached l.fn.at (afters (context_of l.scope.env) l.instrs (labels_of l.fn.at.levels) l.fn.at.stack);
}
