use Rattle.spec_linking.proofs.TriedPaths.{lists_tried as law}
use Rattle.spec_linking.proofs.tried_are_listed.Goals as goal

pub returns : goal.returns
returns c = law
