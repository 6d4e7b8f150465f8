use Rattle.merge_module.proofs.Known.{HasLaws, known}
use Rattle.snap_sizes.proofs.Short.{snapshot_short}
use Rattle.snap_sizes.proofs.snapshots_are_short.Goals as goal

pub returns : goal.returns
returns c =
    let laws : HasLaws = record {
      there = c.linked_code_is_there.ensures.code;
      typed = c.linked_functions_are_typed.ensures.functions;
      callees = c.linked_functions_are_typed.ensures.callees;
      entry = c.linked_functions_are_typed.ensures.entry;
      holds = c.linked_code_is_there.ensures.opening;
      sizes = c.slots_fit.ensures.sizes;
      slots = c.slots_fit.ensures.slots;
    } in
    let bounds = c.weights_bound_lengths.ensures in
    λ L is bytes n contents little.
    snapshot_short bounds.least bounds.sections c.merged_modules_are_formed.ensures.short c.parts_can_be_held.ensures.held c.linked_sets_keep.ensures
    L is bytes (known laws L is.shape is.links) n contents little
