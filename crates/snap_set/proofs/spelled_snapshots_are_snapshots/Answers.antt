use Rattle.snap_set.proofs.Spelled.{spelled_snapshot}
use Rattle.snap_set.proofs.spelled_snapshots_are_snapshots.Goals as goal

pub returns : goal.returns
returns c =
    spelled_snapshot c.merged_modules_are_ready.ensures c.spelled_modules_merge.ensures.stands c.merged_modules_are_formed.ensures.shape
    c.first_started_states_have_entered.ensures c.parts_can_be_held.ensures.held
