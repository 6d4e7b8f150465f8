-- What the snapshot holds of a state of start-up is the same as what the set has there, and the merged module can hold it.
use Rattle.std.proofs.Common.{◌≡◌, ◌<◌, ℕ, zero, suc, ◌+◌, List, [], ◌∷◌, ◌++◌, length, map, slice_get, Some, None, refl, ap, ◌∙◌, arith, length-append}
use Rattle.std.specs.List.{All}
use Rattle.std.proofs.lemmas.List.Elements.{All-nil}
use Rattle.std.proofs.lemmas.Option.{slice_get_within}
use Rattle.spec_loading.specs.wasm_form.declared.module.Elem.{Elem}
use Rattle.spec_loading.specs.wasm_form.declared.module.Module.{Module}
use Rattle.spec_loading.specs.wasm_form.declared.runtime.Ref.{Ref}
use Rattle.spec_loading.specs.wasm_form.declared.runtime.Value.{Value}
use Rattle.spec_loading.specs.wasm_form.declared.runtime.Value.TheVariants.{Num}
use Rattle.spec_loading.specs.spec_validation.Faults.{fault}
use Rattle.spec_loading.specs.spec_runtime.Tables.{TableInstance}
use Rattle.spec_loading.specs.spec_execution.Ranges.{Exists}
use Rattle.spec_loading.specs.spec_execution.Runs as frames
use Rattle.spec_loading.specs.spec_execution.Instances.{ModuleParts}
use Rattle.spec_loading.specs.spec_execution.OneModule.{ModuleState, module_system}
use Rattle.spec_loading.specs.spec_safety.ValueTypes.{IsOfBytes}
use Rattle.spec_loading.specs.spec_linking.Sets.{Member}
use Rattle.spec_loading.specs.spec_linking.LinkedSets.{LinkedSet}
use Rattle.spec_loading.specs.Phases.{startup_frame}
use Rattle.spec_loading.specs.Loading.{LoaderState, stage_in}
use Rattle.spec_loading.specs.Members.{set_view, from_members}
use Rattle.spec_loading.specs.LoadedSet.{SetState, set_system, set_opening}
use Rattle.spec_loading.specs.SoundSets.{HoldBytes, HasFewPages, IsSoundState, SetRunIsSound}
use Rattle.spec_loading.specs.Laws.{GlobalsAreAll}
use Rattle.spec_keeping.specs.Keeping.{SetRunKeeps}
use Rattle.dyl_addresses.proofs.Ranges.{of_startup}
use Rattle.merge_match.specs.Renumbering.{Numbers, reference}
use Rattle.merge_match.specs.Parts.{AreFew}
use Rattle.merge_match.specs.Endings.{at_end}
use Rattle.merge_start.specs.Words.{Starts}
use Rattle.merge_start.specs.Started.{Same, Started, slot_items, place_of}
use Rattle.merge_start.specs.Laws.{MatchedWithin}
use Rattle.merge_start.proofs.Beginning.{opened_same}
use Rattle.merge_start.proofs.Promoted.{few_promoted}
use Rattle.merge_start.proofs.Returning.{standing}
use Rattle.merge_start.proofs.Startup.{sets_step_as_merged}
use Rattle.merge_index.specs.Numbering.{numbers_of, starts_of}
use Rattle.merge_module.specs.Laws.{IsMergeable, MeetsPremises, MergedIsReady, MergedStands}
use Rattle.merge_module.specs.Shape.{shared_memory_type}
use Rattle.merge_module.specs.MergedModule.{with_loader, merged_module}
use Rattle.merge_module.proofs.Faultless.{valid_supported}
use Rattle.merge_module.proofs.Known.{IsKnown, HasLaws, known}
use Rattle.merge_module.proofs.MergedSpaces.{in_front}
use Rattle.merge_module.proofs.WithLoader.{with_used}
use Rattle.snap_module.specs.Held.{Stretch, Contents, table_elems, held_parts, IsReference, CanBeHeld}
use Rattle.spec_snapshots.specs.Causes.{state_after}
use Rattle.snap_set.specs.Parts.{slots_at, slots_left, loader_values, more_of, snapshot_parts, MakeContents}
use Rattle.snap_set.specs.Laws.{Holds, PartsCanBeHeld, TablesRefer}
use Rattle.snap_set.proofs.References.{references_are_kept}
use Rattle.snap_set.proofs.Silent.{run_silent, matched_after}
use Rattle.snap_set.proofs.HeldGlobals.{globals_can}
use Rattle.snap_set.proofs.HeldTables.{tables_can, tables_refer}
use Rattle.snap_set.proofs.HeldSegments.{elems_can, datas_many}

-- what is told of each member stands at its place
one_at : {A : Type 0} (f : ℕ → A) (k i j : ℕ) (xs : List Member) → j ≡ k + i → i < length xs → slice_get (from_members (λ m wasm. f m ∷ []) k xs) i ≡ Some (f j)
one_at f k i j [] is lt = absurd (omega arith)
one_at f k zero j (x ∷ xs) is lt = (let place : k ≡ j = omega arith in ap (λ m. Some (f m)) place)
one_at f k (suc i) j (x ∷ xs) is lt = one_at f (k + 1) i j xs (omega arith) (omega arith)

-- the parts have little, where it is little with more segments
parts_few : (p : ModuleParts) (c : Contents) → AreFew (held_parts p c) → AreFew p
parts_few p c few =
    let elems = length-append p.elems (map (λ (e : Elem). []) (table_elems 0 c.tables) ++ [] ∷ []) in
    let datas = length-append p.datas (map (λ (s : Stretch ℕ). []) c.memory) in
    let more = few.elems in
    let bytes = few.datas in
    record { globals = few.globals; tables = few.tables; elems = omega arith; datas = omega arith }

module _ (laws : HasLaws) (runs : SetRunIsSound) (keeps : SetRunKeeps) (all : GlobalsAreAll) (ready : MergedIsReady) (stands : MergedStands)
    (L : LinkedSet) (mergeable : IsMergeable L) (bytes : HoldBytes L) where
  abbrev n : Numbers
  n = numbers_of L

  abbrev x : Starts
  x = starts_of L

  abbrev M : Module
  M = merged_module L

  few : HasFewPages L
  few = (let most = mergeable.pages in omega arith)

  sound_at : (k : ℕ) → IsSoundState L (state_after L k)
  sound_at k = runs L [] k mergeable.shape mergeable.links few bytes (All-nil IsOfBytes)

  premises : MeetsPremises L
  premises = ready L mergeable.shape mergeable.links mergeable.pages

  K : IsKnown L
  K = known laws L mergeable.shape mergeable.links

  valid : fault M ≡ None
  valid = (stands L mergeable).valid

  references : (r : Ref) → Exists (set_view L) r → IsReference M (Some (reference n r))
  references r there = references_are_kept L n M premises.parts valid r there

  -- ---- the same

  -- where the module stands when the set is opened
  abbrev begun : ModuleState
  begun = standing L n x (startup_frame L.set) [] premises.opening (set_opening L).run.memory

  begun_matches : MatchedWithin L n x (set_opening L) begun
  begun_matches = (
    record {
      memory = refl;
      status = refl;
      units = opened_same L n x premises.opening premises.opened;
      stacks = (frames.Active (at_end x.starting) ∷ [], record { outer = []; stack = refl; under = (refl, refl); tasks = of_startup L mergeable.shape }, (refl, refl));
    },
    premises.bounded,
  )

  matched_at : (k : ℕ) → (t : ModuleState) × MatchedWithin L n x (state_after L k) t
  matched_at k =
      let silent = run_silent (set_system L) k (set_opening L) in
      matched_after (set_system L) (module_system M) (MatchedWithin L n x) (sets_step_as_merged L n x M premises.parts premises.ready premises.calls)
      silent.steps (set_opening L) (state_after L k) begun begun_matches silent.silent

  started : (loader : LoaderState) (more : ModuleParts) → Started L n loader more → Started L n loader (more_of L loader)
  started loader more was = record {
    sized = was.sized;
    low = was.low;
    others = with_loader L (loader_values L loader);
    guards = refl;
    error = λ used. ap (λ (l : List Value). slice_get l 0) (with_used L (loader_values L loader) used);
    few = was.few;
    count = λ used. ap (λ (l : List Value). slice_get l 1) (with_used L (loader_values L loader) used);
    places = λ used m lt.
        (let place : 2 + m ≡ suc (suc m) = omega arith in
        ap (λ (l : List Value). slice_get l (2 + m)) (with_used L (loader_values L loader) used) ∙ ap (slice_get (loader_values L loader)) place
        ∙ one_at (λ j. Num (place_of loader.promoted j)) 0 m m L.set.members (omega arith) lt);
    later = was.later;
    apart = was.apart;
    slots = slots_there;
  }
    where
      slots_there : (m : ℕ) → stage_in loader m ≡ Some 0 → slice_get (more_of L loader).elems m ≡ Some (slot_items L n m)
      slots_there m at =
          let lt = slice_get_within loader.stages m 0 at in
          let many = was.sized in
          let found = one_at (slots_left L loader) 0 m m L.set.members (omega arith) (omega arith) in
          in_front (from_members (λ j wasm. slots_left L loader j ∷ []) 0 L.set.members) ([] ∷ [] ∷ []) m (slot_items L n m)
          (found ∙ ap (λ o. Some (slots_at L m o)) at)

  -- ---- what can be held

  module _ (k : ℕ) where
    abbrev s : SetState
    s = state_after L k

    same_at : AreFew (snapshot_parts L s) → Same L n x s.loader s.run.units (snapshot_parts L s)
    same_at few =
        let was = (matched_at k).1.0.units in
        record {
          store = record {
            more = more_of L s.loader;
            whole = refl;
            kept = started s.loader was.store.more was.store.kept;
            inside = was.store.inside;
            few = few;
          };
          sized = was.sized;
        }

    can_at : (c : Contents) → MakeContents M (snapshot_parts L s) s.run.memory c → CanBeHeld M (snapshot_parts L s) s.run.memory c
    can_at c makes =
        let kept = keeps L [] k in
        let sound = sound_at k in
        let was = (matched_at k).1.0.units.store.kept in
        let promoted = few_promoted L s.loader.promoted was.later was.apart in
        let members = mergeable.shape.few in
        record {
          globals =
              globals_can L n M references all s.run.units sound.units kept.store.globals (valid_supported M valid).globals s.loader
              sound.loader.count sound.loader.stages was.few (omega arith);
          tables = tables_can L mergeable.shape mergeable.links n M s.run.units sound.units kept.store.tables c.tables makes.tables;
          elems = elems_can L K mergeable.pages s.loader s.run.units kept.store.elems;
          datas = datas_many L s.run.units kept.store.datas;
          memory_is = record { limits = shared_memory_type L; only = refl; most = kept.memory; is = sound.memory; made = makes.memory_made };
        }

    holds_at : (c : Contents) → MakeContents M (snapshot_parts L s) s.run.memory c → Holds L s c
    holds_at c makes = record { same = same_at (parts_few (snapshot_parts L s) c makes.few); can = can_at c makes }

    refer_at : All (λ (t : TableInstance). All (IsReference M) t.entries) (snapshot_parts L s).tables
    refer_at =
        let kept = keeps L [] k in
        tables_refer L mergeable.shape mergeable.links n M s.run.units (sound_at k).units kept.store.tables references

pub parts_can_be_held : HasLaws → SetRunIsSound → SetRunKeeps → GlobalsAreAll → MergedIsReady → MergedStands → PartsCanBeHeld
parts_can_be_held laws runs keeps all ready stands L mergeable bytes k c makes = holds_at laws runs keeps all ready stands L mergeable bytes k c makes

pub tables_refer_there : HasLaws → SetRunIsSound → SetRunKeeps → GlobalsAreAll → MergedIsReady → MergedStands → TablesRefer
tables_refer_there laws runs keeps all ready stands L mergeable bytes k = refer_at laws runs keeps all ready stands L mergeable bytes k
