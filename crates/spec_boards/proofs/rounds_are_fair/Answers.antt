use Rattle.spec_boards.proofs.Fair.{fair}
use Rattle.spec_boards.proofs.rounds_are_fair.Goals as goal

pub returns : goal.returns
returns c = λ n rounds i picks under each all. fair n rounds i picks under each all
