use Rattle.spec_limits.proofs.Merging.{merged_does_the_same, set_does_the_same, merged_runs_like, set_runs_like}
use Rattle.spec_limits.proofs.merged_runs_do_the_same.Goals as goal

pub returns-clause-merged : goal.returns-clause-merged
returns-clause-merged c = merged_does_the_same

pub returns-clause-set : goal.returns-clause-set
returns-clause-set c = set_does_the_same

pub returns-clause-merged_ends : goal.returns-clause-merged_ends
returns-clause-merged_ends c = merged_runs_like

pub returns-clause-set_ends : goal.returns-clause-set_ends
returns-clause-set_ends c = set_runs_like
