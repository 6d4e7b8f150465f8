use Rattle.spec_reading.proofs.of_spec_binary.Joined.{on_ok, appends_after}
use Rattle.wasm_encode.proofs.part.put_numbered.Goals as goal

pub returns : goal.returns
returns c = on_ok c.put_u32.result (appends_after c.args.byte _ c.push.new.self.items _ c.in_ok-push.ensures.items) c.put_u32.ensures.ok
