use Rattle.dyl_world.proofs.Known.{none_defined}
use Rattle.dyl_world.proofs.searching.definition_across.Goals as goal

pub returns-in-None : goal.returns-in-None
returns-in-None c = none_defined c.args.linked.now.set c.members.result.now c.members.ensures c.args.name.now c.in-None.ensures c.args.members.now
