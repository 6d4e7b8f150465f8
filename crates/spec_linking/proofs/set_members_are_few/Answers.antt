use Rattle.spec_linking.proofs.FewParts.{members_are_few}
use Rattle.spec_linking.proofs.set_members_are_few.Goals as goal

pub returns : goal.returns
returns c = members_are_few
