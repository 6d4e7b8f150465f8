use Rattle.std.proofs.Common.{◌≡◌, ◌∙◌, length, ap, arith}
use Rattle.std.specs.Prelude.{is_none}
use Rattle.std.specs.List.{filter}
use Rattle.wasm_form.specs.declared.module.Module.{Module}
use Rattle.spec_loading.specs.spec_binary.IndexSpaces.{function_space}
use Rattle.spec_loading.specs.spec_linking.Slots.{defined_functions}
use Rattle.dyl_slots.specs.Fresh.{slot_at}
use Rattle.dyl_slots.proofs.DefinedNumbers.{defined_few, filter_few}
use Rattle.dyl_slots.proofs.Segments.{segmented_is}
use Rattle.dyl_slots.proofs.segmented.member_segments.Goals as goal

pub returns-clause-exact : goal.returns-clause-exact
returns-clause-exact c = λ L at.
    let member = c.args.member.now in
    let same : c.module-wasm.result.now ≡ member.checked = c.module-wasm.ensures.same in
    let count : c.functions_count-count.result ≡ length (function_space member.checked) = c.functions_count-count.ensures ∙ ap (λ (w : Module). length (function_space w)) same in
    let defined = c.in_ok-defined.ensures ∙ ap defined_functions same in
    let list = c.list.ensures in
    let slots = c.deref.ensures.value in
    segmented_is L c.args.m member c.args.functions.now c.args.bases at c.module-wasm.ensures.valid _ defined (c.in_ok-slots.ensures.count ∙ count)
    (λ f lt. c.in_ok-slots.ensures.slots L at f (omega (arith, count, lt)))
    (c.in_ok-fresh.ensures ∙ ap (filter _) list ∙ ap (λ ss. filter (λ f. is_none (slot_at ss f)) c.in_ok-defined.defined) slots)

pub returns-clause-few : goal.returns-clause-few
returns-clause-few c =
    let few = filter_few (λ f. is_none (slot_at c.deref.result.now f)) c.list.result.now in
    let made = ap length c.in_ok-fresh.ensures in
    let list = ap length (c.list.ensures ∙ c.in_ok-defined.ensures) in
    let most = defined_few c.module-wasm.result.now in
    let short = c.module-wasm.ensures.formed.exports.0 in
    let same = ap (λ (w : Module). length w.exports) c.module-wasm.ensures.same in
    omega arith
