use Rattle.merge_start.proofs.Others.{same_code_is_ready, sets_step_as_others, other_runs_agree}
use Rattle.merge_start.proofs.same_code_runs_alike.Goals as goal

pub returns-clause-premises : goal.returns-clause-premises
returns-clause-premises c = same_code_is_ready

pub returns-clause-step : goal.returns-clause-step
returns-clause-step c = sets_step_as_others

pub returns-clause-runs : goal.returns-clause-runs
returns-clause-runs c = other_runs_agree
