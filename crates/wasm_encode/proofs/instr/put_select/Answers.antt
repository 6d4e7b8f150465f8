use Rattle.spec_reading.proofs.of_spec_binary.Joined.{on_ok, appends_after}
use Rattle.wasm_encode.proofs.instr.put_select.Goals as goal

pub returns-clause-ok : goal.returns-clause-ok
returns-clause-ok c = on_ok c.put_vec.result (appends_after 0x1C _ c.push.new.self.items _ c.in_ok-push.ensures.items) c.put_vec.ensures.ok
