-- A loaded set in its run, without what is counted and recorded of it.
-- Serves the contracts of this crate, which follow LoadedSet of `spec_loading`.
use Rattle.std.specs.Prelude.{◌≡◌, ◌<◌, ℕ, List, length, slice_get, Some, IfSome, Bool, true, false}
use Rattle.wasm_form.specs.declared.runtime.Ref.{Ref}
use Rattle.spec_loading.specs.spec_linking.Gathering.{IsSet}
use Rattle.spec_loading.specs.spec_linking.LinkedSets.{LinkedSet}
use Rattle.spec_loading.specs.spec_linking.Links.{Links}
use Rattle.spec_loading.specs.declared.task.Phase.{Phase}
use Rattle.spec_loading.specs.declared.task.Phase.TheVariants.{Place}
use Rattle.spec_loading.specs.declared.task.Task.{Task}
use Rattle.spec_loading.specs.Loading.{Loading}
use Rattle.spec_loading.specs.LoaderAnswers.{promoted_with}
use Rattle.spec_loading.specs.LoadedSet.{SetState, set_loading}
use Rattle.spec_loading.specs.Members.{set_view}
use Rattle.spec_loading.specs.SoundSets.{HoldBytes, HasFewPages, IsSoundState}
use Rattle.wasm_step.specs.declared.done.Done.{Done}
use Rattle.wasm_machine.specs.declared.event.Event.{Event}
use Rattle.dyl_frames.specs.declared.frames.Core.{Core}
use Rattle.dyl_frames.specs.Cores.{IsCore, IsState, StepsFrom, RunsFrom, WantsFrom, TellsDeep, TellsStarted, top_frame, first_task, is_behind}
use Rattle.dyl_store.specs.Worlds.{seen_of}
use Rattle.dyl_store.specs.Placements.{IsPlacement}
use Rattle.dyl_store.specs.declared.place_member.Placement.{Placement}
use Rattle.dyl_store.specs.declared.running.Running.{Running}

-- the run stands at this state
abbrev pub RunsAt : LinkedSet → Running → SetState → Type 0
RunsAt L x s = IsState (set_loading L) x.core x.world.store x.world.memory s

-- it stands at a sound state
abbrev pub IsSomewhere : Running → Type 0
IsSomewhere x = (s : SetState) × RunsAt x.linked.now x s × IsSoundState x.linked.now s

-- a step was made from wherever the run stands
abbrev pub StepsTo : LinkedSet → Event → Running → Running → Type 0
StepsTo L e old new = StepsFrom (set_loading L) e old.core (seen_of old.world) new.core (seen_of new.world)

-- from wherever the run stands so many steps of code were made, and this is what the next one came to
abbrev pub RunsTo : LinkedSet → ℕ → Done → Running → Running → Type 0
RunsTo L n d old new = RunsFrom (set_loading L) n d old.core (seen_of old.world) new.core (seen_of new.world)

-- from wherever the run stands the next step may want memory
abbrev pub WantsTo : Running → Type 0
WantsTo x = WantsFrom (set_loading x.linked.now) x.core (seen_of x.world)

-- from wherever the run stands, this is whether the next step would pass a limit of depth
abbrev pub IsDeepTo : LinkedSet → Bool → Running → Type 0
IsDeepTo L deep x = TellsDeep (set_loading L) deep x.core (seen_of x.world)

-- wherever the run stands, this is whether its entry was called and it goes on
abbrev pub IsStartedTo : LinkedSet → Bool → Running → Type 0
IsStartedTo L started x = TellsStarted (set_loading L) started x.core (seen_of x.world)

-- there is a placement of each member
pub record ArePlacements (L : LinkedSet) (ps : List Placement) : Type 0 where
  pub count : length ps ≡ length L.set.members
  pub each : (m : ℕ) (p : Placement) → slice_get ps m ≡ Some p → IsPlacement L m p

-- what is so of a linked set from which a run begins: its memory has few pages, and the data segments of its members are of bytes
pub record IsRunnable (L : LinkedSet) : Type 0 where
  pub few : HasFewPages L
  pub bytes : HoldBytes L

-- What is so of it, until memory is wanting: the world is that of the linked set, and the machine over it is sound.
pub record IsRunning (x : Running) : Type 0 where
  pub shape : IsSet x.linked.now.set
  pub links : Links x.linked.now
  pub runnable : IsRunnable x.linked.now
  pub fixed : set_view x.world.linked ≡ set_view x.linked.now
  pub core : IsCore (set_view x.world.linked) x.world.store x.world.memory x.core
  pub members : length x.core.stages ≡ length x.linked.now.set.members
  pub placements : ArePlacements x.linked.now x.placements.items

-- ---- steps of the loader

-- the next task places its member, which hasn't come so far
pub record IsPlacing (c : Core) (t : Task) : Type 0 where
  pub next : first_task (top_frame c) ≡ Some t
  pub member : t.member < length c.stages
  pub places : t.phase ≡ Place
  pub behind : is_behind c t ≡ true

-- it places none
abbrev pub NonePlaces : Core → Type 0
NonePlaces c = IfSome (first_task (top_frame c)) (λ t. t.phase ≡ Place → is_behind c t ≡ false)

-- what is loaded is the set, whose entry is this function
pub record Serves {Units : Type 0} (L : LinkedSet) (r : Ref) (D : Loading Units) : Type 0 where
  pub entry : D.entry ≡ Some r
  pub callee : (phase : Phase) (m : ℕ) → D.callee phase m ≡ (set_loading L).callee phase m
  pub promote : D.promote ≡ promoted_with L.set
