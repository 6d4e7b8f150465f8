use Rattle.spec_loading.specs.LoadedSet.{set_loading}
use Rattle.spec_loading.specs.SetNames.{set_names}
use Rattle.spec_loading.specs.SoundSets.{IsSoundStore}
use Rattle.std.specs.Prelude.{length}
use Rattle.spec_loading.proofs.LoadedSteps.{step_sound, answer_sound}
use Rattle.spec_loading.proofs.LinkedLoading.{loading_sound}
use Rattle.spec_loading.proofs.SoundSetViews.{set_view_sound}
use Rattle.spec_loading.proofs.linked_sets_step_soundly.Goals as goal

pub returns-clause-view : goal.returns-clause-view
returns-clause-view c = set_view_sound

pub returns-clause-set : goal.returns-clause-set
returns-clause-set c = loading_sound

pub returns-clause-steps : goal.returns-clause-steps
returns-clause-steps c = λ L s set links few sound moving.
    step_sound (set_loading L) (set_names L) (IsSoundStore L) (length L.set.members) (loading_sound L set links few) s sound moving

pub returns-clause-answers : goal.returns-clause-answers
returns-clause-answers c = λ L s call a set links few sound waits fits bytes.
    answer_sound (set_loading L) (set_names L) (IsSoundStore L) (length L.set.members) (loading_sound L set links few) s call a sound waits fits bytes
