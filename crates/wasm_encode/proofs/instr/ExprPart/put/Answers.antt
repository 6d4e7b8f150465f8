use Rattle.spec_reading.proofs.of_spec_binary.Joined.{on_ok}
use Rattle.wasm_encode.proofs.Parts.{constant_written}
use Rattle.wasm_encode.proofs.instr.ExprPart.put.Goals as goal

pub returns-clause-ok : goal.returns-clause-ok
returns-clause-ok c = on_ok c.put_expr.result (constant_written c.args.self.now _ _ c.requires.flat) c.put_expr.ensures.ok
