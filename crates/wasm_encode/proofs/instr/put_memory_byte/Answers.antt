use Rattle.spec_reading.proofs.of_spec_binary.Joined.{appends_after, appends_byte}
use Rattle.wasm_encode.proofs.instr.put_memory_byte.Goals as goal

pub returns : goal.returns
returns c = appends_after c.args.opcode _ c.push.new.self.items _ c.in_ok-push.ensures.items (appends_byte _ _ 0x00 c.in_ok-push-2.ensures.items)
