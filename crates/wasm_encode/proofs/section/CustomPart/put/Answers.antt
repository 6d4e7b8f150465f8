use Rattle.spec_reading.proofs.of_spec_binary.Joined.{on_ok}
use Rattle.wasm_encode.proofs.SectionForms.{custom_added, custom_too_long}
use Rattle.wasm_encode.proofs.section.CustomPart.put.Goals as goal

pub returns-clause-ok : goal.returns-clause-ok
returns-clause-ok c =
    let named = rw (c.as_str.ensures, c.new-contents.ensures.items) at c.in_ok-put_name.ensures.ok in
    let bytes = rw c.items.ensures at c.in_ok-extend_from_slice.ensures.items in
    let framed = rw c.deref.ensures.value at c.put_framed.ensures.ok in
    on_ok c.put_framed.result (custom_added c.args.self.now c.put_name.new.to.items c.extend_from_slice.new.self.items _ _ named bytes) framed

pub returns-clause-long : goal.returns-clause-long
returns-clause-long c = λ e.
    let named = rw (c.as_str.ensures, c.new-contents.ensures.items) at c.in_ok-put_name.ensures.ok in
    let bytes = rw c.items.ensures at c.in_ok-extend_from_slice.ensures.items in
    let long = rw c.deref.ensures.value at (c.put_framed.ensures.long e) in
    custom_too_long c.args.self.now c.put_name.new.to.items c.extend_from_slice.new.self.items named bytes long
