use Rattle.dyl_store.proofs.Loads.{entry_is, entry_nullary}
use Rattle.dyl_store.proofs.running.entry_of.Goals as goal

pub returns-clause-is : goal.returns-clause-is
returns-clause-is c = entry_is c.args.linked.now c.entry.result c.entry.ensures

pub returns-clause-nullary : goal.returns-clause-nullary
returns-clause-nullary c = entry_nullary c.linked_functions_are_typed.ensures.entry c.args.linked.now c.links.ensures.shape c.links.ensures.links c.entry.result c.entry.ensures
