use Rattle.spec_safety.proofs.SoundStores.{store_is_typed}
use Rattle.spec_safety.proofs.SoundViews.{store_sound}
use Rattle.spec_safety.proofs.stores_are_typed.Goals as goal

pub returns-clause-typed : goal.returns-clause-typed
returns-clause-typed c = store_is_typed

pub returns-clause-sound : goal.returns-clause-sound
returns-clause-sound c = store_sound
