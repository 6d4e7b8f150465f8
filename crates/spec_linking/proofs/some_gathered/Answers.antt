use Rattle.spec_linking.proofs.SomeGathered.{some_gathered as law}
use Rattle.spec_linking.proofs.some_gathered.Goals as goal

pub returns : goal.returns
returns c = law
