use Rattle.snap_module.proofs.Begins.{opens, enters}
use Rattle.snap_module.proofs.held_modules_open.Goals as goal

pub returns-clause-opens : goal.returns-clause-opens
returns-clause-opens c = opens

pub returns-clause-enters : goal.returns-clause-enters
returns-clause-enters c = enters
