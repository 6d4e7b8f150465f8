use Rattle.dyl_link.proofs.NamedFunctions.{named_there}
use Rattle.dyl_link.proofs.functions_are_there.Goals as goal

pub returns : goal.returns
returns c = named_there c.linked_functions_are_typed.ensures.functions
