use Rattle.spec_keeping.proofs.Sets.{set_run_keeps}
use Rattle.spec_keeping.proofs.linked_sets_keep.Goals as goal

pub returns : goal.returns
returns c = set_run_keeps
