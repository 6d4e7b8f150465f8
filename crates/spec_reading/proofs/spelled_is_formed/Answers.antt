use Rattle.spec_reading.proofs.FormedSections.{spelled_formed}
use Rattle.spec_reading.proofs.spelled_is_formed.Goals as goal

pub returns : goal.returns
returns c = spelled_formed
