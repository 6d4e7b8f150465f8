use Rattle.std.proofs.Common.{Err, sym, ap, ◌∙◌}
use Rattle.spec_loading.specs.spec_validation.Faults as validation
use Rattle.dyl_commands.proofs.Generating.{merges_to, merged_to, never_big}
use Rattle.dyl_commands.proofs.generated.merged_module.Goals as goal

pub decoded-requires : goal.decoded-requires
decoded-requires c =
    let m = c.in-Ok.ensures.merged in
    (m.merged.wasm, rw c.deref.ensures.value m.decoded)

pub checked-requires-clause-valid : goal.checked-requires-clause-valid
checked-requires-clause-valid c =
    let m = c.in-Ok.ensures.merged in
    ap validation.fault (sym (c.in_ok-wasm-in-Ok.ensures.told m.merged.wasm (rw c.deref.ensures.value m.decoded))) ∙ m.merged.valid

pub returns-in_ok-wasm-in-Ok : goal.returns-in_ok-wasm-in-Ok
returns-in_ok-wasm-in-Ok c =
    merged_to c.args.linked.now c.in_ok-wasm-in-Ok.wasm c.checked.result c.checked.ensures
    (merges_to c.args.linked.now c.in_ok-wasm-in-Ok.wasm c.deref.result.now (rw c.deref.ensures.value c.in-Ok.ensures.merged) c.in_ok-wasm-in-Ok.ensures.told)

pub unreachable-requires : goal.unreachable-requires
unreachable-requires c = never_big c.args.linked.now c.requires.little (c.in-Err-SectionSize.ensures.long c.in-Err-SectionSize.field-0-0 (ap Err c.in-Err-SectionSize.field-0-is)).big
