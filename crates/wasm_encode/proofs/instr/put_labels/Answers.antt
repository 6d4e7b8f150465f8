use Rattle.spec_reading.proofs.of_spec_binary.Joined.{appends_after, appends_joined}
use Rattle.wasm_encode.proofs.instr.put_labels.Goals as goal

pub returns-clause-ok : goal.returns-clause-ok
returns-clause-ok c = appends_after 0x0E _ c.push.new.self.items _ c.in_ok-push.ensures.items (appends_joined _ c.put_vec.new.to.items _ c.in_ok-put_vec.ensures.ok c.in_ok-put_u32.ensures.ok)
