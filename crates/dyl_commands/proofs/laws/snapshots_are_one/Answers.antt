use Rattle.dyl_commands.proofs.SameTexts.{one_snapshot}
use Rattle.dyl_commands.proofs.laws.snapshots_are_one.Goals as goal

pub returns : goal.returns
returns c = one_snapshot c.written_contents_are_one.ensures.one c.one_shortest_module.ensures
