use Rattle.snap_set.proofs.First.{first_is_there, one_first}
use Rattle.snap_set.proofs.first_states_are_one.Goals as goal

pub returns : goal.returns
returns c = record {
  one = one_first;
  some =
      first_is_there c.linked_sets_never_get_stuck.ensures.sound c.linked_sets_step_soundly.ensures.steps
      c.linked_functions_are_typed.ensures.entry c.linked_sets_keep.ensures;
}
