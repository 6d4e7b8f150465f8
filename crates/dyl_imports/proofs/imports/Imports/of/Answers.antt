use Rattle.dyl_imports.proofs.FewMembers.{members_few}
use Rattle.dyl_imports.proofs.imports.Imports.of.Goals as goal

pub of-requires : goal.of-requires
of-requires c = members_few c.requires.set.0 c.requires.set.1 c.args.members.now c.requires.set.2
