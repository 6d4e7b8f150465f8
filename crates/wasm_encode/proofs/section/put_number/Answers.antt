use Rattle.std.proofs.Common.{ap, ◌∙◌}
use Rattle.std.specs.Prelude.{Err}
use Rattle.wasm_encode.proofs.SectionForms.{number_added, number_small}
use Rattle.wasm_encode.proofs.section.put_number.Goals as goal

pub returns-in-Ok-clause-ok : goal.returns-in-Ok-clause-ok
returns-in-Ok-clause-ok c =
    let held = rw c.new-contents.ensures.items at c.in_ok-put_u32.ensures.ok in
    let framed = rw c.deref.ensures.value at c.in-Ok.ensures.ok in
    number_added c.args.id c.in-Some.number c.args.number c.put_u32.new.to.items _ _ c.in-Some.is held framed

pub unreachable-requires : goal.unreachable-requires
unreachable-requires c =
    let held = rw c.new-contents.ensures.items at c.in_ok-put_u32.ensures.ok in
    let long = rw c.deref.ensures.value at (c.put_framed.ensures.long (c.in-Err-TooLong.is ∙ ap Err c.in-Err-TooLong.field-0-is)) in
    number_small c.in-Some.number c.put_u32.new.to.items held long
