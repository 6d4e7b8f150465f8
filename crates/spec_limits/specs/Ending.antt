-- Where the run of a linked set ends, that of its merged module ends so too, within the limits of a running interpreter.
-- Part of the statement of laws: docs/LAWS.md, "It ends as the set ends".
use Rattle.std.specs.Prelude.{◌≡◌, ◌≤◌, ◌+◌, ◌*◌, ℕ, List}
use Rattle.spec_loading.specs.spec_linking.LinkedSets.{LinkedSet}
use Rattle.spec_loading.specs.spec_execution.Limits.{most_activations, most_values, room_of}
use Rattle.spec_loading.specs.spec_execution.Instances.{module_view}
use Rattle.spec_loading.specs.spec_execution.OneModule.{module_system, module_run, module_too_deep}
use Rattle.spec_loading.specs.wasm_form.declared.module.Module.{Module}
use Rattle.spec_loading.specs.Loading.{loaded_too_deep}
use Rattle.spec_loading.specs.LoadedSet.{set_loading, set_system, set_opening, set_run}
use Rattle.spec_loading.specs.SetCosts.{step_cost, set_room}
use Rattle.spec_loading.specs.Merged.{Merged}
use Rattle.spec_hosts.specs.spec_runs.Costs.{spent}
use Rattle.spec_hosts.specs.declared.ran.Ran.{Ran}
use Rattle.spec_hosts.specs.declared.ran.RunEnd.{RunEnd}
use Rattle.spec_hosts.specs.declared.ran.RunEnd.TheVariants as end
use Rattle.spec_hosts.specs.Ends.{RunsTo}

-- the run has returned, exited or trapped: no limit ended it
abbrev pub EndsByItself : RunEnd → Type 0
EndsByItself end.Return = Unit {0}
EndsByItself (end.Exit code) = Unit {0}
EndsByItself (end.Trap why) = Unit {0}
EndsByItself end.StepLimit = ⊥
EndsByItself end.DepthLimit = ⊥
EndsByItself end.HostCallLimit = ⊥
EndsByItself end.TurnLimit = ⊥

-- what the steps of a run of the set cost its merged module, and one
abbrev pub steps_needed : LinkedSet → Ran → ℕ
steps_needed L ran = spent (set_system L) (step_cost L) ran.steps (set_opening L) ran.answers + 1

-- at each moment of a run of the set, its activations, and those that its merged module may have besides (`set_room`), are at most so many
abbrev pub IsAsDeep : LinkedSet → Ran → ℕ → Type 0
IsAsDeep L ran most = (n : ℕ) → n ≤ ran.steps → set_room (set_run L ran.answers n).state ≤ most

-- the room of each activation of a function of the module is at most so many values
abbrev pub IsAsWide : Module → ℕ → Type 0
IsAsWide wasm most = (f : ℕ) → room_of (module_view wasm) 0 f ≤ most

-- So deep, and each activation with so much room, a run passes no limit of depth.
pub record IsWithinDepth (deepest widest : ℕ) : Type 0 where
  pub activations : deepest ≤ most_activations
  pub values : deepest * widest ≤ most_values

-- The run of the merged module that may make so many steps ends as the run of the set did, under the same answers and with the same host
-- calls on the same memory; and no run of it within its limits, under the same answers, ends otherwise.
pub record EndsAlike (L : LinkedSet) (bytes : List ℕ) (merged : Merged L bytes) (most : ℕ) (ran : Ran) : Type 0 where
  pub steps : ℕ
  pub few : steps ≤ steps_needed L ran
  pub runs : RunsTo (module_system merged.wasm) (module_too_deep merged.wasm) merged.opening most (record ran { steps = steps })
  pub events : (module_run merged.wasm merged.opening ran.answers steps).events ≡ (set_run L ran.answers ran.steps).events
  pub only : (other : Ran) → other.answers ≡ ran.answers → RunsTo (module_system merged.wasm) (module_too_deep merged.wasm) merged.opening most other
      → other.end ≡ ran.end

-- A run of the set within its limits that ended by itself is matched by one of the merged module within its own, if that may make as many
-- steps as are needed.
abbrev pub MergedRunsEndAlike : Type 0
MergedRunsEndAlike = (L : LinkedSet) (bytes : List ℕ) (merged : Merged L bytes) (least most deepest widest : ℕ) (ran : Ran)
    → RunsTo (set_system L) (loaded_too_deep (set_loading L)) (set_opening L) least ran → EndsByItself ran.end
    → IsAsDeep L ran deepest → IsAsWide merged.wasm widest → IsWithinDepth deepest widest → steps_needed L ran ≤ most
    → EndsAlike L bytes merged most ran
