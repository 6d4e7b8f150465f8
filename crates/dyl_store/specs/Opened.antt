-- How the members of a linked set begin.
-- Serves the contracts of this crate, which follow Members of `spec_loading`.
use Rattle.std.specs.Prelude.{◌≡◌}
use Rattle.spec_loading.specs.spec_linking.LinkedSets.{LinkedSet}
use Rattle.spec_loading.specs.Members.{opening_store}
use Rattle.spec_loading.specs.LoadedSet.{opening_memory}
use Rattle.dyl_store.specs.Worlds.{WorldState}

-- these are the members of the linked set, which have what they begin with
pub record IsOpened (L : LinkedSet) (w : WorldState) : Type 0 where
  pub linked : w.linked ≡ L
  pub store : w.store ≡ opening_store L
  pub memory : w.memory ≡ opening_memory L
