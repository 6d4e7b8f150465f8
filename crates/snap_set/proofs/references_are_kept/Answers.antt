use Rattle.snap_set.proofs.References.{references_are_kept}
use Rattle.snap_set.proofs.references_are_kept.Goals as goal

pub returns : goal.returns
returns c = references_are_kept
