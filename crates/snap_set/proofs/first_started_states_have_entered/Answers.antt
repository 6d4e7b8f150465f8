use Rattle.snap_set.proofs.First.{first_is_just_started}
use Rattle.snap_set.proofs.first_started_states_have_entered.Goals as goal

pub returns : goal.returns
returns c =
    first_is_just_started c.linked_sets_never_get_stuck.ensures.sound c.linked_sets_step_soundly.ensures.steps
    c.linked_functions_are_typed.ensures.entry c.linked_sets_keep.ensures
