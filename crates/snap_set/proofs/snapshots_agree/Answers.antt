use Rattle.snap_set.proofs.Snapped.{held_is_snapshot}
use Rattle.snap_set.proofs.snapshots_agree.Goals as goal

pub returns : goal.returns
returns c = held_is_snapshot
