use Rattle.merge_module.proofs.Known.{HasLaws, known}
use Rattle.merge_module.proofs.Agrees.{meets}
use Rattle.merge_module.proofs.merged_modules_are_ready.Goals as goal

pub returns : goal.returns
returns c =
    let laws : HasLaws = record {
      there = c.linked_code_is_there.ensures.code;
      typed = c.linked_functions_are_typed.ensures.functions;
      callees = c.linked_functions_are_typed.ensures.callees;
      entry = c.linked_functions_are_typed.ensures.entry;
      holds = c.linked_code_is_there.ensures.opening;
      sizes = c.slots_fit.ensures.sizes;
      slots = c.slots_fit.ensures.slots;
    } in
    λ L set links few. meets c.unused_loader_is_not_called.ensures c.lengths_are_given.ensures c.members_are_searched.ensures.soon
    c.loader_calls_are_answered.ensures L (known laws L set links) few
