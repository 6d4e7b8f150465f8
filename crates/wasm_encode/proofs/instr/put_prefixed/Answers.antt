use Rattle.spec_reading.proofs.of_spec_binary.Joined.{on_ok}
use Rattle.wasm_encode.proofs.Instructions.{prefixed_joined}
use Rattle.wasm_encode.proofs.instr.put_prefixed.Goals as goal

pub returns : goal.returns
returns c = on_ok c.put_operands.result (prefixed_joined c.args.op c.args.a c.args.b _ c.put_numbered.new.to.items _ c.in_ok-put_numbered.ensures) c.put_operands.ensures
