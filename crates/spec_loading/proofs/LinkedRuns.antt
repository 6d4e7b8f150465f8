-- The run of a linked set keeps its states sound, from a sound store and memory on.
use Rattle.std.proofs.Common.{◌≡◌, ℕ, ◌<◌, ◌≤◌, List, [], length, map, nat_eq, Some, refl, arith}
use Rattle.std.specs.List.{All, IsDistinct}
use Rattle.std.proofs.lemmas.List.{length-map}
use Rattle.std.proofs.lemmas.List.Elements.{All-nil, All-map}
use Rattle.spec_linking.specs.wasm_form.declared.runtime.Answer.{Answer}
use Rattle.spec_linking.specs.spec_runs.Systems.{Moving}
use Rattle.spec_linking.specs.Sets.{Member}
use Rattle.spec_linking.specs.Gathering.{IsSet}
use Rattle.spec_linking.specs.LinkedSets.{LinkedSet}
use Rattle.spec_safety.specs.ValueTypes.{IsOfBytes, IsMemory}
use Rattle.spec_safety.proofs.ModuleRuns.{run_kept}
use Rattle.spec_loading.specs.Loading.{loaded_step}
use Rattle.spec_loading.specs.Members.{opening_store}
use Rattle.spec_loading.specs.LoadedSet.{SetState, set_loading, set_system, opening_memory, set_opening, set_run}
use Rattle.spec_loading.specs.SetNames.{set_names}
use Rattle.spec_loading.specs.SoundLoading.{IsSoundLoader, IsSoundLoading}
use Rattle.spec_loading.specs.SoundSets.{IsSoundStore, IsSoundState}
use Rattle.spec_loading.proofs.InsideSets.{starting_inside}
use Rattle.spec_loading.proofs.LoadedSteps.{step_sound, answer_sound}

none_distinct : IsDistinct nat_eq []
unfolding IsDistinct
none_distinct = tt

-- all stages are 0, and nothing is promoted
opening_loader : (members : List Member) → IsSoundLoader (length members) (record { stages = map (λ (m : Member). 0) members; error = 0; promoted = [] })
opening_loader members = record {
  count = length-map members (λ (m : Member). 0);
  stages = All-map (λ n. n ≤ 4) (λ (m : Member). 0) members (λ i d lt. omega arith);
  error = omega arith;
  promoted = All-nil (λ m. m < length members);
  apart = none_distinct;
}

pub opens_sound : (L : LinkedSet) → IsSet L.set → IsSoundStore L (opening_store L) → IsMemory (opening_memory L) → IsSoundState L (set_opening L)
opens_sound L set store memory = record {
  units = store;
  memory = memory;
  loader = opening_loader L.set.members;
  stack = (λ e. absurd cc, (refl, (starting_inside L.set set, refl)));
}

module _ (L : LinkedSet) (sound : IsSoundLoading (set_loading L) (set_names L) (IsSoundStore L) (length L.set.members)) where
  abbrev many : ℕ
  many = length L.set.members

  pub run_sound : (answers : List Answer) (n : ℕ) → All IsOfBytes answers → IsSoundState L (set_opening L) → IsSoundState L (set_run L answers n).state
  run_sound answers n all opens =
      run_kept (set_system L) (IsSoundState L) IsOfBytes (step_sound (set_loading L) (set_names L) (IsSoundStore L) many sound)
      (answer_sound (set_loading L) (set_names L) (IsSoundStore L) many sound) n (set_opening L) answers opens all

  pub never_stuck : (answers : List Answer) (n : ℕ) → All IsOfBytes answers → IsSoundState L (set_opening L) → (set_run L answers n).state.run.status ≡ Moving
      → (t : SetState) × (loaded_step (set_loading L) (set_run L answers n).state ≡ Some t)
  never_stuck answers n all opens moving =
      let t = step_sound (set_loading L) (set_names L) (IsSoundStore L) many sound (set_run L answers n).state (run_sound answers n all opens) moving in
      (t.0, t.1)
