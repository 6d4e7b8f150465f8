use Rattle.spec_safety.proofs.SoundCode.{checked_is_typed}
use Rattle.spec_safety.proofs.SoundViews.{checked_sound}
use Rattle.spec_safety.proofs.checked_code_is_typed.Goals as goal

pub returns-clause-typed : goal.returns-clause-typed
returns-clause-typed c = checked_is_typed

pub returns-clause-sound : goal.returns-clause-sound
returns-clause-sound c = checked_sound
