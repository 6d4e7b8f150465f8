use Rattle.snap_module.proofs.System.{held_has_code, held_steps}
use Rattle.snap_module.proofs.held_modules_step_alike.Goals as goal

pub returns-clause-code : goal.returns-clause-code
returns-clause-code c = held_has_code

pub returns-clause-steps : goal.returns-clause-steps
returns-clause-steps c = held_steps
