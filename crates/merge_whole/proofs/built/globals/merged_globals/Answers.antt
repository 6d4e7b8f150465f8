use Rattle.std.proofs.Common.{◌≡◌, List, length, ◌++◌, ap, ◌∙◌, arith}
use Rattle.wasm_form.specs.declared.module.GlobalDef.{GlobalDef}
use Rattle.merge_index.specs.Kept.{numbers_in}
use Rattle.merge_index.specs.Numbering.{starts_of}
use Rattle.merge_whole.specs.GlobalDefs.{zeros_for}
use Rattle.merge_whole.proofs.GlobalLists.{many_are, globals_are}
use Rattle.merge_whole.proofs.FewNumbers.{guards_few}
use Rattle.merge_module.proofs.Known.{HasLaws}
use Rattle.merge_whole.proofs.GlobalFits.{own_fit}
use Rattle.merge_whole.proofs.built.globals.merged_globals.Goals as goal

pub returns-clause-globals : goal.returns-clause-globals
returns-clause-globals c =
    let n = numbers_in c.args.n.now in
    c.of.ensures
    ∙ globals_are c.args.linked.now c.links.ensures.links n _ _ c.members.result.now c.members.ensures
    (c.in_ok-put_zeros.ensures ∙ ap (λ (gs : List GlobalDef). gs ++ zeros_for c.members.result.now) c.in_ok-list.ensures)
    c.in_ok-put_loader.ensures

pub returns-clause-guards : goal.returns-clause-guards
returns-clause-guards c =
    let L = c.args.linked.now in
    let len = c.len-guard.ensures in
    let many : length c.in_ok-list.list.items ≡ (starts_of L).guards = ap length c.in_ok-list.ensures ∙ many_are L c.links.ensures.links (numbers_in c.args.n.now) in
    omega arith

pub overflow_cast-guard : goal.overflow_cast-guard
overflow_cast-guard c =
    let L = c.args.linked.now in
    let len = c.len-guard.ensures in
    let many = ap length c.in_ok-list.ensures ∙ many_are L c.links.ensures.links (numbers_in c.args.n.now) in
    let few = guards_few L c.links.ensures.shape in
    omega arith

pub returns-clause-few : goal.returns-clause-few
returns-clause-few c =
    let L = c.args.linked.now in
    let len = c.len-guard.ensures in
    let many = ap length c.in_ok-list.ensures ∙ many_are L c.links.ensures.links (numbers_in c.args.n.now) in
    let few = guards_few L c.links.ensures.shape in
    omega arith

pub all_globals-requires : goal.all_globals-requires
all_globals-requires c =
    let laws : HasLaws = record {
      there = c.linked_code_is_there.ensures.code;
      typed = c.linked_functions_are_typed.ensures.functions;
      callees = c.linked_functions_are_typed.ensures.callees;
      entry = c.linked_functions_are_typed.ensures.entry;
      holds = c.linked_code_is_there.ensures.opening;
      sizes = c.slots_fit.ensures.sizes;
      slots = c.slots_fit.ensures.slots;
    } in
    record { fit = own_fit laws c.args.linked.now c.links.ensures.shape c.links.ensures.links c.has_few_pages.ensures }
