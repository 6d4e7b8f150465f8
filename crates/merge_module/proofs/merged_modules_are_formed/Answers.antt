use Rattle.merge_module.proofs.Known.{HasLaws, known}
use Rattle.merge_module.proofs.Formed.{merged_formed, merged_shaped}
use Rattle.merge_module.proofs.Short.{merged_short}
use Rattle.merge_module.proofs.InLine.{merged_in_line}
use Rattle.merge_module.proofs.merged_modules_are_formed.Goals as goal

pub returns : goal.returns
returns c =
    let laws : HasLaws = record {
      there = c.linked_code_is_there.ensures.code;
      typed = c.linked_functions_are_typed.ensures.functions;
      callees = c.linked_functions_are_typed.ensures.callees;
      entry = c.linked_functions_are_typed.ensures.entry;
      holds = c.linked_code_is_there.ensures.opening;
      sizes = c.slots_fit.ensures.sizes;
      slots = c.slots_fit.ensures.slots;
    } in
    let bounds = c.weights_bound_lengths.ensures in
    let small = c.searches_are_small.ensures in
    record {
      formed = λ L is. merged_formed L (known laws L is.shape is.links) is.pages small;
      shape = λ L is. merged_shaped L (known laws L is.shape is.links);
      short = λ L is brief. merged_short small bounds.least bounds.sections bounds.bodies L (known laws L is.shape is.links) is.pages brief;
      light = λ L is. merged_in_line small bounds.least L (known laws L is.shape is.links) is.pages;
    }
