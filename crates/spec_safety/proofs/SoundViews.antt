-- The view of units over a store is sound, and so is that of a valid module.
use Rattle.spec_execution.specs.Instances.{module_instances}
use Rattle.spec_safety.specs.NeverStuck.{StoreIsSound, CheckedIsSound}
use Rattle.spec_safety.proofs.SoundStores.{store_is_typed}
use Rattle.spec_safety.proofs.StoredUnits.{store_is_stored}
use Rattle.spec_safety.proofs.SoundCode.{checked_is_typed}
use Rattle.spec_safety.proofs.CountedNames.{alone_counted}

pub store_sound : StoreIsSound
store_sound I typed counted = record { typed = store_is_typed I I.names typed; counted = counted; stored = store_is_stored I }

pub checked_sound : CheckedIsSound
checked_sound m alone numbers = record {
  typed = checked_is_typed m alone numbers;
  counted = λ unit. alone_counted m alone;
  stored = store_is_stored (module_instances m);
}
