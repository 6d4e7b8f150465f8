use Rattle.spec_reading.proofs.of_spec_binary.Joined.{on_ok, vec_written}
use Rattle.wasm_encode.proofs.part.put_vec.Goals as goal

pub returns-clause-ok : goal.returns-clause-ok
returns-clause-ok g c = on_ok c.put_each.result (vec_written c.args.items.now _ c.put_u32.new.to.items _ c.in_ok-put_u32.ensures.ok) c.put_each.ensures.ok
