use Rattle.std.proofs.Common.{◌<◌, ◌∙◌, length, ap, arith}
use Rattle.wasm_form.specs.declared.module.Module.{Module}
use Rattle.merge_whole.proofs.HostUses.{types_short}
use Rattle.merge_whole.proofs.built.hosts.note_members.Goals as goal

pub note_types-requires : goal.note_types-requires
note_types-requires c =
    let imports = ap length c.items.ensures in
    let same = ap (λ (w : Module). length w.imports) c.module-wasm.ensures.same in
    let short = c.module-wasm.ensures.formed.imports.0 in
    let few : length c.items.result.now < 4294967296 = omega arith in
    types_short c.items.result.now c.as_slice.result.now (c.as_slice.ensures.value ∙ c.in_ok-types.ensures) few
