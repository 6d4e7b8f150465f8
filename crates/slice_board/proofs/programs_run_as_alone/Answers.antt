use Rattle.slice_board.proofs.Own.{own_run}
use Rattle.dyl_store.specs.Stores.{set_course}
use Rattle.slice_board.proofs.programs_run_as_alone.Goals as goal

pub returns : goal.returns
returns c = λ L used most p ran is not. own_run (set_course L) most used p ran is not
