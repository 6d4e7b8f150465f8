use Rattle.std.proofs.Common.{◌≡◌, Option, Some, sym, ap, ap₂, ◌∙◌}
use Rattle.wasm_form.specs.declared.module.Module.{Module}
use Rattle.spec_loading.specs.spec_binary.Options.{◌>>=◌}
use Rattle.spec_loading.specs.spec_linking.Sets.{Member}
use Rattle.spec_loading.specs.spec_validation.Faults.{fault}
use Rattle.dyl_addresses.proofs.Linked.{one_module}
use Rattle.dyl_addresses.proofs.Valid.{elem_offsets, data_offsets}
use Rattle.merge_start.specs.Listed.{placed_with, parts_of}
use Rattle.merge_start.proofs.phases.member_parts.Goals as goal

pub place_code-requires-clause-elems : goal.place_code-requires-clause-elems
place_code-requires-clause-elems c =
    elem_offsets c.module-wasm.result.now (ap (λ (w : Module). fault w) c.module-wasm.ensures.same ∙ c.module-wasm.ensures.valid)

pub place_code-requires-clause-datas : goal.place_code-requires-clause-datas
place_code-requires-clause-datas c =
    data_offsets c.module-wasm.result.now (ap (λ (w : Module). fault w) c.module-wasm.ensures.same ∙ c.module-wasm.ensures.valid)

pub returns : goal.returns
returns c = λ wasm found.
    let here = ap (λ (o : Option Member). o >>= λ x. Some x.wasm) c.member.ensures in
    let same : c.module-wasm.result.now ≡ wasm = c.module-wasm.ensures.same ∙ one_module _ wasm (sym here ∙ found) in
    let place = c.in_ok-place.ensures
    ∙ ap₂ (λ bs w. placed_with c.args.n.now c.args.spans bs c.args.slots.segment c.args.slots.first c.args.slots.count w) c.as_slice.ensures.value same in
    (c.in_ok-bases.bases.items, c.in_ok-bases.ensures, c.in_ok-parts.ensures ∙ ap (parts_of c.args.n.now c.args.m) place)
