use Rattle.dyl_commands.proofs.MergedFiles.{one_merge}
use Rattle.dyl_commands.proofs.laws.merges_are_one.Goals as goal

pub returns : goal.returns
returns c = one_merge c.one_shortest_module.ensures
