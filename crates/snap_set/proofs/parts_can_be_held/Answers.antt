use Rattle.merge_module.proofs.Known.{HasLaws}
use Rattle.snap_set.proofs.HeldParts.{parts_can_be_held, tables_refer_there}
use Rattle.snap_set.proofs.parts_can_be_held.Goals as goal

pub returns : goal.returns
returns c =
    let laws : HasLaws = record {
      there = c.linked_code_is_there.ensures.code;
      typed = c.linked_functions_are_typed.ensures.functions;
      callees = c.linked_functions_are_typed.ensures.callees;
      entry = c.linked_functions_are_typed.ensures.entry;
      holds = c.linked_code_is_there.ensures.opening;
      sizes = c.slots_fit.ensures.sizes;
      slots = c.slots_fit.ensures.slots;
    } in
    let sound = c.linked_sets_never_get_stuck.ensures.sound in
    let keeps = c.linked_sets_keep.ensures in
    let all = c.opening_store_has_first_values.ensures.all in
    let ready = c.merged_modules_are_ready.ensures in
    let stands = c.spelled_modules_merge.ensures.stands in
    record {
      held = parts_can_be_held laws sound keeps all ready stands;
      refer = tables_refer_there laws sound keeps all ready stands;
    }
