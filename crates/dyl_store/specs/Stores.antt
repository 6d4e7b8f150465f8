-- The run of a linked set, as contracts see it.
-- Serves the contracts of this crate, which follow LoadedSet of `spec_loading`.
use Rattle.std.specs.Prelude.{◌≡◌, ℕ, ◌≤◌, ◌<◌, List, [], ◌∷◌, Option, Some, None, Bool, true, false, ◌&&◌}
use Rattle.wasm_form.specs.declared.runtime.Trap.{Trap}
use Rattle.spec_loading.specs.spec_runs.Systems.{Status, Moving}
use Rattle.spec_loading.specs.spec_runtime.Hosts.{HostCall}
use Rattle.spec_loading.specs.spec_runtime.Recorded.{Recorded}
use Rattle.spec_loading.specs.spec_execution.Instances.{ModuleParts}
use Rattle.spec_loading.specs.spec_linking.LinkedSets.{LinkedSet, set_hosts}
use Rattle.spec_loading.specs.Loading.{loaded_too_deep}
use Rattle.spec_loading.specs.LoadedSet.{SetState, set_loading, set_opening, set_system}
use Rattle.spec_loading.specs.spec_runtime.Courses.{Course, no_steps, after, state_at, status_at}
use Rattle.dyl_frames.specs.Next as next

-- the linked set, and what is recorded of its run
pub record StoreRun : Type 0 where
  pub linked : LinkedSet
  pub run : Recorded

-- the course of a linked set from its opening state
abbrev pub set_course : LinkedSet → Course
set_course L = record { system = set_system L; deep = loaded_too_deep (set_loading L); opening = set_opening L; host = set_hosts L }

-- the run of a loaded set that has made no step
abbrev pub new_run : LinkedSet → StoreRun
new_run L = record { linked = L; run = no_steps }

-- Code was on top of the call stack at each state from which one of the further steps was made.
abbrev pub HadCodeOnTop : LinkedSet → Recorded → Recorded → Type 0
HadCodeOnTop L old new = (k : ℕ) → old.steps ≤ k → k < new.steps → next.HasCodeOnTop (after (set_course L) k old.answers).state

-- the run goes on by itself
abbrev pub is_moving : Status HostCall Trap → Bool
is_moving Moving = true
is_moving _ = false

-- Whether a limit of depth is due where the recorded steps of a run lead: it goes on by itself, and its next step would pass the limit.
abbrev pub is_deep_at : Course → Recorded → Bool
is_deep_at C x = is_moving (status_at C x) && C.deep (state_at C x)

-- what the members have there, but for the memory
abbrev pub units_at : LinkedSet → Recorded → ModuleParts
units_at L x = (state_at (set_course L) x).run.units

-- a segment is there, and this is whether it is empty
abbrev pub IsDroppedTold : {A : Type 0} → Bool → Option (List A) → Type 0
IsDroppedTold dropped None = ⊥
IsDroppedTold dropped (Some []) = dropped ≡ true
IsDroppedTold dropped (Some (x ∷ xs)) = dropped ≡ false

-- where the recorded steps of the run lead the next step may want memory
abbrev pub MayWantAt : LinkedSet → Recorded → Type 0
MayWantAt L x = next.MayWant (state_at (set_course L) x)
