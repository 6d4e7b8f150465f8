use Rattle.spec_reading.proofs.of_spec_binary.Joined.{on_ok, appends_after}
use Rattle.wasm_encode.proofs.instr.put_null.Goals as goal

pub returns : goal.returns
returns c = on_ok c.put_ref_type.result (appends_after 0xD0 _ c.push.new.self.items _ c.in_ok-push.ensures.items) c.put_ref_type.ensures
