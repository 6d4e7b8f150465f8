use Rattle.spec_reading.proofs.of_spec_binary.Joined.{on_ok}
use Rattle.wasm_encode.proofs.Segments.{elem_written}
use Rattle.wasm_encode.proofs.segment.ElemPart.put.Goals as goal

pub returns-clause-ok : goal.returns-clause-ok
returns-clause-ok c =
    let flags = rw c.elem_flags.ensures at c.in_ok-put_u32.ensures.ok in
    on_ok c.put_items.result (elem_written c.args.self.now c.names_table-named.result _ c.put_u32.new.to.items c.put_elem_mode.new.to.items _ c.names_table-named.ensures flags c.in_ok-put_elem_mode.ensures.ok) c.put_items.ensures.ok
