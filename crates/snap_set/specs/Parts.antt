-- What the snapshot of a linked set holds, by a state of the loaded run, and the snapshot.
-- This profile: docs/FORMATS.md, "The snapshot".
use Rattle.std.specs.Prelude.{ℕ, List, [], ◌∷◌, ◌++◌, length, map, nat_eq, Option, None, Some, unwrap_or, if◌then◌else◌}
use Rattle.std.specs.List.{All}
use Rattle.spec_loading.specs.wasm_form.declared.module.Module.{Module}
use Rattle.spec_loading.specs.wasm_form.declared.runtime.Ref.{Ref}
use Rattle.spec_loading.specs.wasm_form.declared.runtime.Ref.TheVariants.{Own}
use Rattle.spec_loading.specs.wasm_form.declared.runtime.Value.{Value}
use Rattle.spec_loading.specs.wasm_form.declared.runtime.Value.TheVariants.{Num}
use Rattle.spec_loading.specs.spec_runtime.Memories.{MemoryInstance}
use Rattle.spec_loading.specs.spec_runtime.Tables.{TableInstance}
use Rattle.spec_loading.specs.spec_execution.Instances.{ModuleParts}
use Rattle.spec_loading.specs.spec_linking.LinkedSets.{LinkedSet}
use Rattle.spec_loading.specs.spec_linking.Links.{set_entry}
use Rattle.spec_loading.specs.Loading.{LoaderState, stage_in}
use Rattle.spec_loading.specs.Members.{from_members}
use Rattle.spec_loading.specs.LoadedSet.{SetState}
use Rattle.spec_snapshots.specs.Stretches.{IsWritten}
use Rattle.merge_match.specs.Renumbering.{table_instance}
use Rattle.merge_match.specs.Parts.{extended, AreFew}
use Rattle.merge_start.specs.Started.{slot_items, place_of}
use Rattle.merge_index.specs.Numbering.{numbers_of, function_number}
use Rattle.merge_module.specs.MergedModule.{with_loader, merged_module}
use Rattle.snap_module.specs.Held.{Stretch, Make, Contents, held, held_parts, IsReference}

-- the segment of the fresh slots of a member is left while the member is not placed; nothing reads it once it is
abbrev pub slots_at : LinkedSet → ℕ → Option ℕ → List (Option Ref)
slots_at L m None = []
slots_at L m (Some stage) = if nat_eq stage 0 then slot_items L (numbers_of L) m else []

abbrev pub slots_left : LinkedSet → LoaderState → ℕ → List (Option Ref)
slots_left L loader m = slots_at L m (stage_in loader m)

-- the number of the error, how many members are promoted, and the place of each member among these
abbrev pub loader_values : LinkedSet → LoaderState → List Value
loader_values L loader =
    Num loader.error ∷ Num (length loader.promoted) ∷ from_members (λ m wasm. Num (place_of loader.promoted m) ∷ []) 0 L.set.members

-- Behind what members have: the guards hold the stages, and where the set uses the loader the globals behind them what it keeps; the segments of
-- fresh slots are as above, and those that were applied when the merged module was opened are empty, as is the declarative one.
abbrev pub more_of : LinkedSet → LoaderState → ModuleParts
more_of L loader = record {
  globals = map Num loader.stages ++ with_loader L (loader_values L loader);
  tables = [];
  elems = from_members (λ m wasm. slots_left L loader m ∷ []) 0 L.set.members ++ [] ∷ [] ∷ [];
  datas = [] ∷ [];
}

abbrev pub snapshot_parts : LinkedSet → SetState → ModuleParts
snapshot_parts L s = extended (numbers_of L) s.run.units (more_of L s.loader)

-- the number of the entry
abbrev pub start_number : LinkedSet → ℕ
start_number L = function_number L (Own 0 (unwrap_or (set_entry L.set.members) 0))

-- the snapshot of a state, of whose memory and tables these contents are written
abbrev pub snapshot_module : LinkedSet → SetState → Contents → Module
snapshot_module L s c = held (merged_module L) (start_number L) (snapshot_parts L s) s.run.memory c

-- stretches that make the memory, and those of each table
abbrev pub MakeTables : Module → List TableInstance → List (List (Stretch (Option Ref))) → Type 0
MakeTables m [] [] = Unit {0}
MakeTables m (x ∷ xs) (ss ∷ more) =
    Make None ss x.entries × All (λ (s : Stretch (Option Ref)). All (IsReference m) s.items) ss × MakeTables m xs more
MakeTables m _ _ = ⊥

pub record MakeContents (m : Module) (p : ModuleParts) (memory : MemoryInstance) (c : Contents) : Type 0 where
  pub memory_made : Make 0 c.memory memory.bytes
  pub tables : MakeTables m p.tables c.tables
  -- and no more stretches than a module may have segments
  pub few : AreFew (held_parts p c)

-- The module that holds a state has these contents: they make it, and of it little is written. So they are determined by the state.
pub record IsHeldWith (L : LinkedSet) (s : SetState) (c : Contents) : Type 0 where
  pub make : MakeContents (merged_module L) (snapshot_parts L s) s.run.memory c
  pub written : IsWritten s.run.memory (map (table_instance (numbers_of L)) s.run.units.tables) c
