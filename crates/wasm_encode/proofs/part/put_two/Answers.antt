use Rattle.spec_reading.proofs.of_spec_binary.Joined.{on_ok, appends_joined}
use Rattle.wasm_encode.proofs.part.put_two.Goals as goal

pub returns : goal.returns
returns c = on_ok c.put_u32-2.result (appends_joined _ c.put_u32.new.to.items _ c.in_ok-put_u32.ensures.ok) c.put_u32-2.ensures.ok
