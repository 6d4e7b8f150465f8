use Rattle.spec_safety.proofs.ModuleOpenings.{opens_sound}
use Rattle.spec_safety.proofs.modules_open_soundly.Goals as goal

pub returns : goal.returns
returns c = λ m names s alone numbers bytes. opens_sound m alone numbers bytes names s
