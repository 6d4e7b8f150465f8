use Rattle.snap_module.proofs.Valid.{held_valid}
use Rattle.snap_module.proofs.held_modules_are_valid.Goals as goal

pub returns : goal.returns
returns c m entry p memory contents none alone can start = held_valid m entry p memory contents none alone can start.nullary
