-- A linked set begins with what its definition says.
use Rattle.std.proofs.Common.{◌≡◌, ℕ, ◌+◌, ◌*◌, ◌<◌, ◌≤◌, List, [], ◌∷◌, ◌++◌, length, map, take, drop, Option, Some, refl, sym, ap, ap₂, ◌∙◌, subst, arith, length-append, length-drop}
use Rattle.std.specs.Prelude.{reverse, replicate, Bool, None, if◌then◌else◌, Result, Ok}
use Rattle.std.specs.List.{All}
use Rattle.std.proofs.lemmas.Bool.{le-leb}
use Rattle.std.proofs.lemmas.List.{length-map, length-take, length-replicate, reverse-reverse}
use Rattle.std.proofs.lemmas.List.Elements.{All-nil, All-cons}
use Rattle.wasm_form.specs.declared.runtime.Ref.{Ref}
use Rattle.wasm_form.specs.declared.runtime.Trap.{Trap}
use Rattle.wasm_form.specs.declared.runtime.Value.{Value}
use Rattle.wasm_space.specs.Access.{ChangesOrTraps}
use Rattle.spec_loading.specs.spec_runtime.Memories.{MemoryInstance, page_size, zeros, new_memory, overwritten, written}
use Rattle.spec_loading.specs.spec_runtime.Tables.{TableInstance}
use Rattle.spec_loading.specs.spec_execution.Views.{View}
use Rattle.spec_loading.specs.spec_execution.Instances.{ModuleParts}
use Rattle.spec_loading.specs.spec_linking.Sets.{Member}
use Rattle.spec_loading.specs.spec_linking.Plans.{Plan}
use Rattle.spec_loading.specs.spec_linking.Gathering.{IsSet}
use Rattle.spec_loading.specs.spec_linking.LinkedSets.{LinkedSet}
use Rattle.spec_loading.specs.spec_linking.Links.{Links}
use Rattle.spec_loading.specs.spec_linking.Orders.{closure, post_order}
use Rattle.spec_loading.specs.spec_linking.Slots.{linked_plan}
use Rattle.spec_loading.proofs.of_spec_linking.LinkedFacts.{linked_limits}
use Rattle.spec_loading.specs.spec_safety.ValueTypes.{IsMemory}
use Rattle.spec_loading.specs.spec_safety.TypedViews.{HoldTypes, IsSoundView}
use Rattle.spec_loading.proofs.of_spec_safety.Lookups.{All-reverse}
use Rattle.spec_loading.specs.Texts.{error_texts}
use Rattle.spec_loading.proofs.Rows.{texts_length}
use Rattle.spec_loading.specs.Phases.{opening_tasks, startup_frame, open_frame}
use Rattle.spec_loading.specs.Members.{set_view, opening_store}
use Rattle.spec_loading.specs.Loading.{LoaderState}
use Rattle.spec_loading.specs.LoadedSet.{set_loading, set_opening, opening_memory}
use Rattle.spec_loading.specs.Laws.{LinkedIsThere, OpeningHolds, SizesArePlanned}
use Rattle.spec_loading.specs.SoundSets.{IsSoundState, SetIsSound, SetOpensSound, SetViewIsSound}
use Rattle.dyl_addresses.specs.Sets.{AreOf}
use Rattle.dyl_addresses.proofs.Ranges.{of_open}
use Rattle.spec_loading.specs.declared.task.Task.{Task}
use Rattle.dyl_frames.specs.declared.frames.Core.{Core}
use Rattle.dyl_frames.specs.Cores.{IsCore, IsState, OpensAt}
use Rattle.dyl_store.specs.declared.world.World.TheInside.{Inside}
use Rattle.dyl_store.specs.declared.running.Running.{Running}
use Rattle.dyl_store.specs.Worlds.{WorldState, HasSizes}
use Rattle.dyl_store.specs.Units.{AreUnits, IsWorld, store_of}
use Rattle.dyl_store.specs.Opened.{IsOpened}
use Rattle.dyl_store.specs.Runs.{IsRunning, IsRunnable, RunsAt, ArePlacements}
use Rattle.dyl_store.proofs.Views.{all_fit}

-- ---- the memory

zeros_length : (n : ℕ) → length (zeros n) ≡ n
unfolding zeros
zeros_length n = length-replicate n 0

-- bytes that leave the length as it was lie within
lie_within : (bytes : List ℕ) (at : ℕ) (new : List ℕ) → 0 < length new → length (overwritten bytes at new) ≡ length bytes → at + length new ≤ length bytes
unfolding overwritten
lie_within bytes at new some same =
    let outer = length-append (take at bytes) (new ++ drop (at + length new) bytes) in
    let inner = length-append new (drop (at + length new) bytes) in
    omega (arith, outer, inner, some, same, length-take at bytes, length-drop (at + length new) bytes)

-- what is written within is there
pub put_so : (why : Trap) (old : MemoryInstance) (at : ℕ) (new : List ℕ) (r : Result (Unit {0}) Trap) (after : MemoryInstance) → at + length new ≤ length old.bytes → ChangesOrTraps why old (written old at new) r after
    → (r ≡ Ok tt) × (after ≡ record old { bytes = overwritten old.bytes at new })
put_so why old at new r after le changes =
    subst (λ (b : Bool). ChangesOrTraps why old (if b then Some (record old { bytes = overwritten old.bytes at new }) else None) r after) (le-leb (at + length new) (length old.bytes) le) changes

texts_some : 0 < length error_texts
texts_some = (let many = texts_length in omega arith)

module _ (L : LinkedSet) (plan : Plan) (planned : plan ≡ linked_plan L) where
  pub pages_fit : Links L → plan.pages ≤ plan.pages_max
  pages_fit links = subst (λ (p : Plan). p.pages ≤ p.pages_max) (sym planned) (linked_limits L links).pages

  module _ (sizes : SizesArePlanned) (old : MemoryInstance) (fresh : old ≡ new_memory plan.pages plan.pages_max) where
    empty : old ≡ new_memory (linked_plan L).pages (linked_plan L).pages_max
    empty = fresh ∙ ap (λ (p : Plan). new_memory p.pages p.pages_max) planned

    pub texts_lie : (at : ℕ) (texts : List ℕ) → at ≡ plan.stack_top → texts ≡ error_texts → at + length texts ≤ length old.bytes
    texts_lie at texts place same =
        let sized : length (opening_memory L).bytes ≡ (linked_plan L).pages * page_size = (sizes L).0 in
        let many = zeros_length ((linked_plan L).pages * page_size) in
        let here : (linked_plan L).stack_top + length error_texts ≤ length (zeros ((linked_plan L).pages * page_size)) =
        lie_within (zeros ((linked_plan L).pages * page_size)) (linked_plan L).stack_top error_texts texts_some (sized ∙ sym many) in
        rw (place, same, empty, planned) here

    pub memory_is : (at : ℕ) (texts : List ℕ) (new : MemoryInstance) → at ≡ plan.stack_top → texts ≡ error_texts → new ≡ record old { bytes = overwritten old.bytes at texts } → new ≡ opening_memory L
    memory_is at texts new place same put = put ∙ rw (place, same, empty, planned) refl

-- ---- tasks

-- the member of a task is one of so many
abbrev IsOf : ℕ → Task → Type 0
IsOf n t = t.member < n

inside : (L : LinkedSet) (ts : List Task) → AreOf L ts → All (IsOf (length L.set.members)) ts
inside L [] are = All-nil (IsOf (length L.set.members))
inside L (t ∷ ts) are = All-cons (IsOf (length L.set.members)) t ts are.0 (inside L ts are.1)

module _ (L : LinkedSet) (shape : IsSet L.set) (m : ℕ) (lt : m < length L.set.members) (tasks : List Task) (breadth post : List ℕ)
    (opens : reverse tasks ≡ opening_tasks breadth post) (starts : breadth ≡ closure L.set m) (order : post ≡ post_order L.set m) where
  pub open_tasks : reverse tasks ≡ (open_frame L.set m).tasks
  open_tasks = opens ∙ ap₂ opening_tasks starts order

  pub open_members : All (λ (t : Task). t.member < length L.set.members) tasks
  open_members =
      let there : All (IsOf (length L.set.members)) (reverse tasks) = inside L (reverse tasks) (subst (AreOf L) (sym open_tasks) (of_open L shape m lt)) in
      subst (λ (ts : List Task). All (IsOf (length L.set.members)) ts) (reverse-reverse tasks) (All-reverse (IsOf (length L.set.members)) (reverse tasks) there)

-- the first frame opens the main module
pub startup_opens : (L : LinkedSet) → IsSet L.set → (open_frame L.set 0).tasks ≡ (startup_frame L.set).tasks
startup_opens L shape = ap (λ (breadth : List ℕ). opening_tasks breadth (post_order L.set 0)) (sym shape.startup)

-- ---- the members

-- a store is known by what it has
abbrev pub parts_of : List Value → List TableInstance → List (List (Option Ref)) → List (List ℕ) → ModuleParts
parts_of gs ts es ds = record { globals = gs; tables = ts; elems = es; datas = ds }

pub parts_same : (gs hs : List Value) (ts us : List TableInstance) (es fs : List (List (Option Ref))) (ds bs : List (List ℕ)) → gs ≡ hs → ts ≡ us → es ≡ fs → ds ≡ bs → parts_of gs ts es ds ≡ parts_of hs us fs bs
parts_same gs hs ts us es fs ds bs g t e d = rw (g, t, e, d) refl

pub world_is : LinkedIsThere → OpeningHolds → (w : Inside) → IsSet w.linked.now.set → Links w.linked.now → AreUnits w.linked.now w.units.items → store_of w ≡ opening_store w.linked.now → IsWorld w
world_is law holds w shape links units store =
    let L = w.linked.now in
    record {
      there = law L shape links;
      fits = all_fit L (holds L shape links);
      units = units;
      sizes = subst (HasSizes L) (sym store) (record { globals = refl; tables = refl; elems = refl; datas = refl });
    }

-- what is so of a linked set that begins so
module _ (L : LinkedSet) (shape : IsSet L.set) (links : Links L) (runnable : IsRunnable L) (w : WorldState) (opened : IsOpened L w) where
  same_view : set_view L ≡ set_view w.linked
  same_view = sym (ap set_view opened.linked)

  pub view_over : SetViewIsSound → IsSoundView (set_view w.linked)
  view_over law = subst IsSoundView same_view (law L shape links)

  opens : SetOpensSound → IsSoundState L (set_opening L)
  opens law = law L shape links runnable.few runnable.bytes

  pub holds_over : SetIsSound → SetOpensSound → HoldTypes (set_view w.linked) (set_view w.linked).names w.store
  holds_over sound law =
      let holds = (sound L shape links runnable.few).view.holds (opening_store L) (opens law).units in
      subst (λ (us : ModuleParts). HoldTypes (set_view w.linked) (set_view w.linked).names us) (sym opened.store)
      (subst (λ (V : View ModuleParts). HoldTypes V V.names (opening_store L)) same_view holds)

  pub memory_over : SetOpensSound → IsMemory w.memory
  memory_over law = subst IsMemory (sym opened.memory) (opens law).memory

-- ---- the machine

-- no member has come to a stage
no_stages : (xs : List Member) → map {B = ℕ} (λ m. 0) xs ≡ replicate (length xs) 0
no_stages [] = refl
no_stages (x ∷ xs) = ap (λ (ns : List ℕ). 0 ∷ ns) (no_stages xs)

pub core_at : (L : LinkedSet) (w : WorldState) → IsOpened L w → (count : ℕ) → count ≡ length L.set.members → (tasks : List Task) → tasks ≡ (startup_frame L.set).tasks → (c : Core)
    → OpensAt (set_loading L) count tasks (record { fixed = set_view w.linked; units = w.store; memory = w.memory }) c → IsState (set_loading L) c w.store w.memory (set_opening L)
core_at L w opened count many tasks are c opens =
    opens (set_opening L) (record {
      loader = ap (λ (xs : List ℕ). record { stages = xs; error = 0; promoted = [] }) (no_stages L.set.members ∙ ap (λ (n : ℕ). replicate n 0) (sym many));
      units = sym opened.store;
      space = sym opened.memory;
      status = refl;
      stack = rw are refl;
    })

-- ---- the run

pub running_is : (x : Running) → IsSet x.linked.now.set → Links x.linked.now → IsRunnable x.linked.now → IsOpened x.linked.now x.world → IsCore (set_view x.world.linked) x.world.store x.world.memory x.core → RunsAt x.linked.now x (set_opening x.linked.now)
    → ArePlacements x.linked.now x.placements.items → IsRunning x
running_is x shape links runnable opened core at placements =
    let L = x.linked.now in
    record {
      shape = shape;
      links = links;
      runnable = runnable;
      fixed = ap set_view opened.linked;
      core = core;
      members = ap (λ (l : LoaderState). length l.stages) (sym at.loader) ∙ length-map L.set.members (λ (m : Member). 0);
      placements = placements;
    }
