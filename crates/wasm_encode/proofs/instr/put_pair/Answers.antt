use Rattle.spec_reading.proofs.of_spec_binary.Joined.{on_ok, appends_after}
use Rattle.wasm_encode.proofs.instr.put_pair.Goals as goal

pub returns : goal.returns
returns c = on_ok c.put_two.result (appends_after c.args.opcode _ c.push.new.self.items _ c.in_ok-push.ensures.items) c.put_two.ensures
