use Rattle.std.proofs.Common.{length, ap, ◌∙◌}
use Rattle.wasm_check.proofs.Contexts.{answers_kept}
use Rattle.wasm_check.proofs.bodies.height_as.Goals as goal

pub returns : goal.returns
returns c =
    let s = c.requires.spaces in
    answers_kept c.check_body.result c.args.m.now c.args.f.now c.args.c.now c.items.result.now c.deref.result.now c.deref-2.result.now
    c.deref-3.result.now c.deref-4.result.now c.has_memory.result _ c.args.refers.now
    c.items-3.result.now c.items-4.result.now c.items-5.result.now c.items-6.result.now c.items.ensures
    (c.deref.ensures.value ∙ s.functions) (c.deref-2.ensures.value ∙ s.globals) (c.deref-3.ensures.value ∙ s.tables)
    (c.deref-4.ensures.value ∙ s.elems) c.has_memory.ensures (ap length c.items-2.ensures) c.requires.marks c.items-3.ensures
    c.items-4.ensures c.items-5.ensures c.items-6.ensures c.check_body.ensures
