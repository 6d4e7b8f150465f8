use Rattle.spec_boards.proofs.Alone.{seat_alone}
use Rattle.dyl_store.specs.Stores.{set_course}
use Rattle.slice_board.proofs.programs_stand_alone.Goals as goal

pub returns : goal.returns
returns c = λ programs slice picks i x at. seat_alone set_course slice programs picks i x at
