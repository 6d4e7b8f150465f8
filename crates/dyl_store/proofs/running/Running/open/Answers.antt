use Rattle.dyl_store.proofs.Opened.{running_is}
use Rattle.dyl_store.proofs.running.Running.open.Goals as goal

pub returns-in-Ok-core_of-clause-running : goal.returns-in-Ok-core_of-clause-running
returns-in-Ok-core_of-clause-running c = running_is _ c.links.ensures.shape c.links.ensures.links c.requires c.in-Ok.ensures c.in-Ok-core_of.ensures.core c.in-Ok-core_of.ensures.opened c.in_ok-placements.ensures

pub returns-in-Ok-core_of-clause-opened : goal.returns-in-Ok-core_of-clause-opened
returns-in-Ok-core_of-clause-opened c = c.in-Ok-core_of.ensures.opened
