use Rattle.spec_reading.proofs.of_spec_binary.Joined.{on_ok}
use Rattle.wasm_encode.proofs.Parts.{global_written}
use Rattle.wasm_encode.proofs.import.GlobalDefPart.put.Goals as goal

pub returns-clause-ok : goal.returns-clause-ok
returns-clause-ok c = on_ok c.put-2.result (global_written c.args.self.now _ c.put.new.to.items _ c.in_ok-put.ensures.ok) c.put-2.ensures.ok
