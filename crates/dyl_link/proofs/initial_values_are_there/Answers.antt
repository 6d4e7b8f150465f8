use Rattle.dyl_link.proofs.InitialValues.{value_there}
use Rattle.dyl_link.proofs.initial_values_are_there.Goals as goal

pub returns : goal.returns
returns c = value_there
