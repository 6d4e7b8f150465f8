-- The module that holds the state of a start-up, and its bytes.
-- Serves the contracts of this crate, which follow Parts of `snap_set`.
use Rattle.std.specs.Prelude.{◌≡◌, ◌<◌, ◌⊎◌, ◌^◌, ℕ, ◌+◌, ◌*◌, List, [], length, map, false, sum_by, Result, Err, Vec}
use Rattle.std.specs.Global.{Global}
use Rattle.std.specs.List.{All}
use Rattle.spec_reading.specs.spec_binary.Number.{IsShortest}
use Rattle.spec_reading.specs.spec_binary.Modules.{SpellsModule}
use Rattle.spec_reading.specs.spec_binary.IndexSpaces.{function_space}
use Rattle.spec_reading.specs.spec_binary.WellFormed.{IsFormedType, IsWellFormed}
use Rattle.spec_loading.specs.wasm_form.declared.module.Module.{Module}
use Rattle.spec_loading.specs.spec_runtime.Memories.{MemoryInstance}
use Rattle.spec_loading.specs.spec_runtime.Tables.{TableInstance}
use Rattle.spec_loading.specs.spec_runtime.Recorded.{Recorded}
use Rattle.spec_loading.specs.spec_linking.Sets.{Member}
use Rattle.spec_loading.specs.spec_linking.LinkedSets.{LinkedSet}
use Rattle.spec_loading.specs.LoadedSet.{SetState}
use Rattle.spec_snapshots.specs.declared.fault.SnapFault.{SnapFault}
use Rattle.spec_snapshots.specs.declared.fault.SnapFault.TheVariants as faults
use Rattle.wasm_encode.specs.SectionSizes.{IsFirstTooLong}
use Rattle.merge_match.specs.Renumbering.{table_instance}
use Rattle.merge_match.specs.Parts.{AreFew}
use Rattle.merge_index.specs.Numbering.{numbers_of}
use Rattle.merge_module.specs.MergedModule.{merged_module}
use Rattle.merge_whole.specs.Merges.{bulk_of}
use Rattle.snap_module.specs.Held.{Contents, held_parts}
use Rattle.spec_snapshots.specs.Stretches.{entries, IsWritten}
use Rattle.spec_snapshots.specs.Causes.{Takes, IsFirst}
use Rattle.snap_set.specs.Parts.{snapshot_parts, snapshot_module, IsHeldWith}
use Rattle.snap_merge.specs.Answers.{IsTooLongAfter}

-- the run stands where its entry has just been called
pub record IsTaken (L : LinkedSet) (x : Recorded) : Type 0 where
  pub most : ℕ
  pub first : IsFirst L most x.steps Takes
  pub found : x.lost ≡ false
  pub none : x.answers ≡ []

-- The module is the merged one with the contents of the state, of which little is written.
pub record IsMade (L : LinkedSet) (s : SetState) (m : Module) : Type 0 where
  pub contents : Contents
  pub is : m ≡ snapshot_module L s contents
  pub written : IsWritten s.run.memory (map (table_instance (numbers_of L)) s.run.units.tables) contents
  pub few : AreFew (held_parts (snapshot_parts L s) contents)
  pub functions : length (function_space (merged_module L)) < 2 ^ 32
  pub types : All IsFormedType (merged_module L).types

-- the module holds the state
pub record IsHolding (L : LinkedSet) (s : SetState) (m : Module) : Type 0 where
  pub contents : Contents
  pub held : IsHeldWith L s contents
  pub is : m ≡ snapshot_module L s contents
  pub formed : IsWellFormed m

-- how much there is to be written of members, a memory and tables
abbrev pub amount_of : List Member → MemoryInstance → List TableInstance → ℕ
amount_of members memory tables = 2 * bulk_of members + length memory.bytes + 8 * sum_by entries tables

-- bytes are the shortest that spell a module which holds the state and is well formed
pub record IsSpelled (L : LinkedSet) (s : SetState) (bytes : List ℕ) : Type 0 where
  pub contents : Contents
  pub held : IsHeldWith L s contents
  pub shortest : IsShortest (SpellsModule (snapshot_module L s contents)) bytes
  pub formed : IsWellFormed (snapshot_module L s contents)

-- faults of writing
abbrev pub IsWriteFault : SnapFault → Type 0
IsWriteFault (faults.SectionSize id) = Unit {0}
IsWriteFault faults.Memory = Unit {0}
IsWriteFault _ = ⊥

-- what is told by them: a section is too long, or memory is wanting
abbrev pub WriteTells : LinkedSet → SetState → SnapFault → Type 0
WriteTells L s (faults.SectionSize id) = IsTooLongAfter L s id
WriteTells L s faults.Memory = Unit {0}
WriteTells L s _ = ⊥

-- Where the module that holds the state has a first section that is too long, this is told, or want of memory.
abbrev pub TellsLong : LinkedSet → SetState → Result (Vec ℕ Global) SnapFault → Type 0
TellsLong L s result =
    (id : ℕ) (c : Contents) → IsHeldWith L s c → IsFirstTooLong (snapshot_module L s c) id
    → (result ≡ Err (faults.SectionSize id)) ⊎ (result ≡ Err faults.Memory)
