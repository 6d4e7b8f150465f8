use Rattle.spec_reading.proofs.of_spec_binary.Joined.{on_ok}
use Rattle.wasm_encode.proofs.Segments.{data_written}
use Rattle.wasm_encode.proofs.segment.DataPart.put.Goals as goal

pub returns-clause-ok : goal.returns-clause-ok
returns-clause-ok c =
    let flags = rw c.data_flags.ensures at c.in_ok-put_u32.ensures.ok in
    let bytes = rw c.items.ensures at c.put_vec.ensures.ok in
    on_ok c.put_vec.result (data_written c.args.self.now c.names_memory-named.result _ c.put_u32.new.to.items c.put_data_mode.new.to.items _ c.names_memory-named.ensures flags c.in_ok-put_data_mode.ensures.ok) bytes
