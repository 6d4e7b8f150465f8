-- A run without what is recorded of it, as the recorder sees it.
-- Serves the contracts of this crate, which follow Courses of `spec_runtime`.
use Rattle.std.specs.Prelude.{◌≡◌, List, slice_get, Some}
use Rattle.wasm_form.specs.declared.runtime.Trap.{Trap}
use Rattle.spec_safety.specs.spec_runs.Systems.{Status, Moving, Waits, Returned, Exited, Trapped}
use Rattle.spec_safety.specs.spec_runtime.Names.{HostName}
use Rattle.spec_safety.specs.spec_runtime.Hosts.{HostCall}
use Rattle.spec_safety.specs.spec_runtime.Courses.{Course}
use Rattle.wasm_machine.specs.declared.machine.Standing.{Standing}
use Rattle.wasm_machine.specs.declared.machine.Standing.TheVariants as standing

-- Of runs B, each of which is that of one K: the courses of a K, each from an origin that is one of it; and of a run the K, how its machine
-- stands, at which states of a course it stands, and what is so of it.
pub record Bares (B K : Type 0) : Type 1 where
  pub Origin : Type 0
  pub IsOf : K → Origin → Type 0
  pub course : K → Origin → Course
  -- code is on top, whose step is left to no one else
  pub IsCode : (k : K) (o : Origin) → (course k o).system.State → Type 0
  -- so it is of each state from which steps of code are made
  pub HasCode : (k : K) (o : Origin) → (course k o).system.State → Type 0
  -- the next step may want memory
  pub MayWant : (k : K) (o : Origin) → (course k o).system.State → Type 0
  -- the host functions, by their entries
  pub hosts : K → List HostName
  pub key : B → K
  pub standing : B → Standing
  pub IsState : (b : B) (k : K) (o : Origin) → (course k o).system.State → Type 0
  -- until memory is wanting, and always
  pub IsSound : B → Type 0
  pub IsWhole : B → Type 0

-- what a machine is at says how the run stands, whose host functions are these
abbrev pub StandsSo : List HostName → Standing → Status HostCall Trap → Type 0
StandsSo hosts standing.Moving status = status ≡ Moving
StandsSo hosts (standing.Asking entry count) status = (call : HostCall) × (status ≡ Waits call) × (slice_get hosts entry ≡ Some call.host)
StandsSo hosts standing.Returned status = status ≡ Returned
StandsSo hosts (standing.Trapped why) status = status ≡ Trapped why
StandsSo hosts (standing.Exited code) status = status ≡ Exited code
StandsSo hosts _ status = ⊥
