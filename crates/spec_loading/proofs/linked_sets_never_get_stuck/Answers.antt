use Rattle.spec_linking.specs.Gathering.{IsSet}
use Rattle.spec_linking.specs.LinkedSets.{LinkedSet}
use Rattle.spec_linking.specs.Links.{Links}
use Rattle.spec_loading.specs.LoadedSet.{set_opening}
use Rattle.spec_loading.specs.SoundSets.{HoldBytes, IsSoundState, HasFewPages}
use Rattle.spec_loading.proofs.OpeningSound.{opening_sound}
use Rattle.spec_loading.proofs.OpeningMemory.{opening_memory_sound}
use Rattle.spec_loading.proofs.LinkedLoading.{loading_sound}
use Rattle.spec_loading.proofs.LinkedRuns.{opens_sound, run_sound, never_stuck}
use Rattle.spec_loading.proofs.linked_sets_never_get_stuck.Goals as goal

opens : (L : LinkedSet) → IsSet L.set → Links L → HasFewPages L → HoldBytes L → IsSoundState L (set_opening L)
opens L set links few bytes = opens_sound L set (opening_sound L set links few bytes) (opening_memory_sound L links few)

pub returns-clause-opening : goal.returns-clause-opening
returns-clause-opening c = opens

pub returns-clause-sound : goal.returns-clause-sound
returns-clause-sound c = λ L answers n set links few bytes all. run_sound L (loading_sound L set links few) answers n all (opens L set links few bytes)

pub returns-clause-never_stuck : goal.returns-clause-never_stuck
returns-clause-never_stuck c = λ L answers n set links few bytes all moving.
    never_stuck L (loading_sound L set links few) answers n all (opens L set links few bytes) moving
