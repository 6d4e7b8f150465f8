-- What is answered of the snapshot of a linked set.
-- This profile: docs/FORMATS.md, "The snapshot".
use Rattle.std.specs.Prelude.{◌≡◌, ℕ, ◌+◌, ◌*◌, ◌^◌, ◌≤◌, List, length, map, sum_by, Some, Ok}
use Rattle.spec_reading.specs.spec_binary.DecodeAnswers.{DecodeAnswer}
use Rattle.spec_loading.specs.spec_binary.Number.{IsShortest}
use Rattle.spec_loading.specs.spec_binary.Modules.{SpellsModule}
use Rattle.spec_loading.specs.spec_linking.LinkedSets.{LinkedSet, hosts_of}
use Rattle.spec_loading.specs.LoadedSet.{SetState}
use Rattle.spec_snapshots.specs.declared.fault.SnapFault.{SnapFault}
use Rattle.spec_snapshots.specs.declared.fault.SnapFault.TheVariants as faults
use Rattle.wasm_encode.specs.SectionSizes.{IsFirstTooLong}
use Rattle.merge_index.specs.Numbering.{numbers_of, starts_of}
use Rattle.merge_module.specs.Shape.{asked_host}
use Rattle.merge_module.specs.MergedModule.{merged_module}
use Rattle.merge_whole.specs.Merges.{bulk}
use Rattle.spec_snapshots.specs.Stretches.{Contents, entries}
use Rattle.spec_snapshots.specs.Causes.{Takes, TrapsSo, Calls, StepsEnd, IsDeep, IsFirst, state_after}
use Rattle.snap_set.specs.Snapshots as snapshots
use Rattle.snap_set.specs.Parts.{start_number, snapshot_module, IsHeldWith}

-- The bytes are the shortest that spell the module that holds the state. Of these there is one list: the same state has the same bytes each time.
abbrev pub AreShortestAfter : LinkedSet → SetState → List ℕ → Type 0
AreShortestAfter L s bytes = (c : Contents) × IsHeldWith L s c × IsShortest (SpellsModule (snapshot_module L s c)) bytes

-- Bytes are a snapshot of the set at this state. Its module is what they are decoded to, and imports what a merged one does: the host functions of
-- the set and nothing else, each once, in the order of the first imports of them. The bytes are the shortest.
pub record Snapped (L : LinkedSet) (bytes : List ℕ) (s : SetState) : Type 0 where
  pub snapshot : snapshots.Snapped L (numbers_of L) (starts_of L) (merged_module L) (start_number L) bytes s
  pub decoded : DecodeAnswer bytes (Ok snapshot.wasm)
  pub imports : map (asked_host snapshot.wasm) snapshot.wasm.imports ≡ map Some (hosts_of L)
  pub shortest : AreShortestAfter L s bytes

-- How much there is to be written of a state: twice the bulk of the set, the bytes of its memory, and 8 for each entry of its tables.
abbrev pub amount : LinkedSet → SetState → ℕ
amount L s = 2 * bulk L + length s.run.memory.bytes + 8 * sum_by entries s.run.units.tables

-- The module that holds a state has a section with this number that is too long to be written, the first such one; and there is much to be
-- written.
pub record IsTooLongAfter (L : LinkedSet) (s : SetState) (id : ℕ) : Type 0 where
  pub contents : Contents
  pub held : IsHeldWith L s contents
  pub first : IsFirstTooLong (snapshot_module L s contents) id
  pub big : 2 ^ 32 ≤ amount L s

-- At most so many steps lead to the call of the entry, and the section with this number of the module that holds the state there is the first
-- that is too long.
pub record IsLongFirst (L : LinkedSet) (most id : ℕ) : Type 0 where
  pub steps : ℕ
  pub first : IsFirst L most steps Takes
  pub contents : Contents
  pub held : IsHeldWith L (state_after L steps) contents
  pub long : IsFirstTooLong (snapshot_module L (state_after L steps) contents) id

-- bytes spell the module that holds the state there
pub record IsSpelledFirst (L : LinkedSet) (most : ℕ) (bytes : List ℕ) : Type 0 where
  pub steps : ℕ
  pub first : IsFirst L most steps Takes
  pub contents : Contents
  pub held : IsHeldWith L (state_after L steps) contents
  pub spelled : SpellsModule (snapshot_module L (state_after L steps) contents) bytes

-- Why there is no snapshot of a set, where at most so many steps of start-up are made.
abbrev pub SnapTells : LinkedSet → ℕ → SnapFault → Type 0
SnapTells L most faults.HostCall = (n : ℕ) × IsFirst L most n Calls
SnapTells L most (faults.Trap why) = (n : ℕ) × IsFirst L most n (TrapsSo why)
SnapTells L most faults.Steps = (n : ℕ) × IsFirst L most n StepsEnd
SnapTells L most faults.Depth = (n : ℕ) × IsFirst L most n IsDeep
SnapTells L most (faults.SectionSize id) = (n : ℕ) × IsFirst L most n Takes × IsTooLongAfter L (state_after L n) id
SnapTells L most faults.Memory = Unit {0}
