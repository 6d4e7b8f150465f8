-- The steps of what runs are those of the loaded set.
use Rattle.std.proofs.Common.{◌≡◌, ℕ, ◌<◌, List, [], ◌∷◌, length, Option, Some, None, refl, ap, sym, ◌∙◌, subst}
use Rattle.std.specs.Prelude.{OnOk, IfSome, Result, Ok, Err}
use Rattle.wasm_machine.specs.declared.event.Event.{Event}
use Rattle.wasm_view.specs.Seen.{Seen}
use Rattle.spec_loading.specs.declared.task.Task.{Task}
use Rattle.dyl_frames.specs.Cores.{first_of, StepsFrom}
use Rattle.std.specs.Borrow.{Bor}
use Rattle.std.proofs.lemmas.Option.{same_Some}
use Rattle.wasm_form.specs.declared.runtime.Ref.{Ref}
use Rattle.wasm_form.specs.declared.runtime.Ref.TheVariants.{Own}
use Rattle.wasm_form.specs.declared.runtime.Trap.{Trap}
use Rattle.spec_loading.specs.spec_binary.Options.{◌>>=◌}
use Rattle.spec_loading.specs.spec_binary.Indices.{nullary}
use Rattle.spec_loading.specs.spec_execution.Views.{View, type_of}
use Rattle.spec_loading.specs.spec_execution.Instances.{ModuleParts}
use Rattle.spec_loading.specs.spec_execution.Segments.{Performed}
use Rattle.spec_loading.specs.spec_linking.Gathering.{IsSet}
use Rattle.spec_loading.specs.spec_linking.LinkedSets.{LinkedSet}
use Rattle.spec_loading.specs.spec_linking.Links.{Links, set_entry}
use Rattle.spec_loading.specs.Members.{set_view}
use Rattle.spec_loading.specs.LoadedSet.{set_loading}
use Rattle.spec_loading.specs.spec_safety.ValueTypes.{IsMemory}
use Rattle.spec_loading.specs.spec_safety.TypedViews.{HoldTypes}
use Rattle.spec_loading.specs.SoundSets.{IsSoundStore, SetIsSound}
use Rattle.spec_loading.specs.Laws.{EntryIsThere}
use Rattle.dyl_frames.specs.declared.frames.Core.{Core}
use Rattle.dyl_frames.specs.Cores.{IsLoaded, IsCore, IsState, trap_of}
use Rattle.dyl_frames.proofs.Placed.{core_over}
use Rattle.dyl_store.specs.Worlds.{WorldState, seen_of}
use Rattle.dyl_store.specs.Placements.{PlacesSo}
use Rattle.dyl_store.specs.declared.running.Running.{Running}
use Rattle.dyl_store.specs.Runs.{IsRunning, IsRunnable, IsSomewhere, ArePlacements, StepsTo, Serves}

pub loaded : (x : Running) → IsRunning x → IsLoaded (set_loading x.linked.now) (set_view x.world.linked)
loaded x h = record { view = sym h.fixed; hosts = λ entry. refl }

-- what is kept after a step
pub running_after : (old new : Running) → IsRunning old → new.linked ≡ old.linked → new.placements ≡ old.placements → set_view new.world.linked ≡ set_view old.world.linked
    → IsCore (set_view old.world.linked) new.world.store new.world.memory new.core → length new.core.stages ≡ length old.core.stages → IsRunning new
running_after old new h linked placements fixed core members =
    let same : old.linked.now ≡ new.linked.now = ap (λ (b : Bor LinkedSet). b.now) (sym linked) in
    record {
      shape = subst (λ (L : LinkedSet). IsSet L.set) same h.shape;
      links = subst Links same h.links;
      runnable = subst IsRunnable same h.runnable;
      fixed = fixed ∙ h.fixed ∙ ap set_view same;
      core = subst (λ (V : View ModuleParts). IsCore V new.world.store new.world.memory new.core) (sym fixed) core;
      members = members ∙ h.members ∙ ap (λ (x : LinkedSet). length x.set.members) same;
      placements = subst (λ (x : LinkedSet). ArePlacements x new.placements.items) same (subst (λ (ps : _). ArePlacements old.linked.now ps.items) (sym placements) h.placements);
    }

-- ---- the entry

-- what is loaded is the set itself
pub serves : (L : LinkedSet) (r : Ref) → (set_loading L).entry ≡ Some r → Serves L r (set_loading L)
serves L r is = record { entry = is; callee = λ phase m. refl; promote = refl }

pub entry_is : (L : LinkedSet) (f : ℕ) → set_entry L.set.members ≡ Some f → (set_loading L).entry ≡ Some (Own 0 f)
entry_is L f found = ap (λ (o : Option ℕ). o >>= λ n. Some (Own 0 n)) found

pub entry_nullary : EntryIsThere → (L : LinkedSet) → IsSet L.set → Links L → (f : ℕ) → set_entry L.set.members ≡ Some f → type_of (set_view L) (Own 0 f) ≡ Some nullary
entry_nullary law L shape links f found =
    let there = law L shape links in
    let same : Own 0 there.0 ≡ Own 0 f = same_Some (Own 0 there.0) (Own 0 f) (sym there.1 ∙ entry_is L f found) in
    ap (type_of (set_view L)) (sym same) ∙ there.2

-- functions of the same types over another view
pub nullary_seen : {Units : Type 0} (V : View Units) (W : View ModuleParts) → ((r : Ref) → type_of V r ≡ type_of W r) → (o : Option Ref)
    → IfSome o (λ r. type_of W r ≡ Some nullary) → IfSome o (λ r. type_of V r ≡ Some nullary)
nullary_seen V W same None h = tt
nullary_seen V W same (Some r) h = same r ∙ h

-- ---- placing

-- over the store and the memory of a sound state the machine is sound still
pub placed_core : SetIsSound → (x : Running) → IsRunning x → IsSomewhere x → (m : ℕ) → m < length x.linked.now.set.members → (r : Result (Unit {0}) Trap) (new : WorldState) → PlacesSo x.linked.now m x.world r new
    → IsCore (set_view x.world.linked) new.store new.memory x.core
placed_core law x h at m lt r new placed =
    let L = x.linked.now in
    let sound = at.2 in
    let loading = law L h.shape h.links h.runnable.few in
    let units = subst (IsSoundStore L) at.1.units sound.units in
    let memory = subst IsMemory at.1.space sound.memory in
    let p = loading.placed m x.world.store x.world.memory lt units memory in
    let is : p.0 ≡ record { units = new.store; memory = new.memory; trap = trap_of r } = same_Some p.0 (record { units = new.store; memory = new.memory; trap = trap_of r }) (sym p.1 ∙ placed) in
    let holds = loading.view.holds new.store (subst (λ (q : Performed ModuleParts). IsSoundStore L q.units) is p.2) in
    core_over (set_view x.world.linked) x.world.store new.store x.world.memory new.memory x.core h.core (subst (λ (V : View ModuleParts). HoldTypes V V.names new.store) (sym h.fixed) holds)
    (subst (λ (q : Performed ModuleParts). IsMemory q.memory) is p.3)

-- no task is left
pub none_first : (ts : List Task) → None ≡ first_of ts → ts ≡ []
none_first [] e = refl
none_first (t ∷ ts) e = absurd cc

-- what is so of an answer that isn't want of memory
pub both_ok : {A B : Type 0} (r : Result A B) (P Q X : Type 0) → (P → Q → X) → OnOk r P → OnOk r Q → OnOk r X
both_ok (Ok a) P Q X f p q = f p q
both_ok (Err b) P Q X f p q = tt

-- the same machine over the same world stands where it stood
pub still_somewhere : (x : Running) (core : Core) (w : WorldState) → core ≡ x.core → seen_of w ≡ seen_of x.world → IsSomewhere x → IsSomewhere (record x { world = w; core = core })
still_somewhere x core w same seen at =
    let D = set_loading x.linked.now in
    let s = at.0 in
    let over = subst (λ (v : Seen ModuleParts). IsState D x.core v.units v.memory s) (sym seen) at.1 in
    (s, subst (λ (c : Core). IsState D c w.store w.memory s) (sym same) over, at.2)

-- and makes the same steps
pub steps_same : (L : LinkedSet) (e : Event) (old new : Running) (core : Core) (w : Seen ModuleParts) → core ≡ old.core → w ≡ seen_of old.world → StepsFrom (set_loading L) e core w new.core (seen_of new.world) → StepsTo L e old new
steps_same L e old new core w same seen steps =
    subst (λ (x : Core). StepsFrom (set_loading L) e x (seen_of old.world) new.core (seen_of new.world)) same (subst (λ (x : Seen ModuleParts). StepsFrom (set_loading L) e core x new.core (seen_of new.world)) seen steps)
