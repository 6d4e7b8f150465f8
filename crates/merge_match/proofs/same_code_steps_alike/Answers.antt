use Rattle.merge_match.proofs.SameCode.{same_code_steps_alike, same_code_has_parts}
use Rattle.merge_match.proofs.same_code_steps_alike.Goals as goal

pub returns-clause-step : goal.returns-clause-step
returns-clause-step c = same_code_steps_alike

pub returns-clause-parts : goal.returns-clause-parts
returns-clause-parts c = same_code_has_parts
