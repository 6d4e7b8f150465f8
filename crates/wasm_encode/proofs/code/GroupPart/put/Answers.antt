use Rattle.spec_reading.proofs.of_spec_binary.Joined.{on_ok}
use Rattle.wasm_encode.proofs.Parts.{group_written}
use Rattle.wasm_encode.proofs.code.GroupPart.put.Goals as goal

pub returns-clause-ok : goal.returns-clause-ok
returns-clause-ok c = on_ok c.put.result (group_written c.args.self.now _ c.put_u32.new.to.items _ c.in_ok-put_u32.ensures.ok) c.put.ensures.ok
