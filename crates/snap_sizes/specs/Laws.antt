-- What is so of the length of a snapshot.
-- Part of the statement of laws: docs/LAWS.md, "Laws of the parts".
use Rattle.std.specs.Prelude.{ℕ, ◌+◌, ◌*◌, ◌^◌, ◌≤◌, ◌<◌, map, sum_by}
use Rattle.spec_loading.specs.spec_linking.Gathering.{total_size}
use Rattle.spec_loading.specs.spec_linking.LinkedSets.{LinkedSet}
use Rattle.spec_loading.specs.LoadedSet.{SetState}
use Rattle.spec_loading.specs.SoundSets.{HoldBytes}
use Rattle.merge_match.specs.Renumbering.{table_instance}
use Rattle.merge_index.specs.Numbering.{numbers_of}
use Rattle.merge_module.specs.MergedModule.{added_types, merged_module}
use Rattle.merge_module.specs.Laws.{IsMergeable, AreShort, types_bulk, names_bulk}
use Rattle.snap_module.specs.Held.{Contents}
use Rattle.spec_snapshots.specs.Causes.{state_after}
use Rattle.snap_set.specs.Parts.{snapshot_parts, snapshot_module, MakeContents}
use Rattle.spec_snapshots.specs.Stretches.{IsWritten, entries}

-- 512 times the bytes of the set's files and of its members' names, and 8 for each entry of its tables
abbrev pub much : LinkedSet → SetState → ℕ
much L s = 512 * (total_size L.set.members + names_bulk L.set.members) + 8 * sum_by entries s.run.units.tables

-- Little is written of the memory and of tables, and there isn't much else.
pub record IsLittle (L : LinkedSet) (s : SetState) (c : Contents) : Type 0 where
  pub make : MakeContents (merged_module L) (snapshot_parts L s) s.run.memory c
  pub written : IsWritten s.run.memory (map (table_instance (numbers_of L)) s.run.units.tables) c
  pub types : types_bulk (added_types L) ≤ 33554432
  pub few : much L s < 2 ^ 32

-- So no section of what holds the state takes 2^32 bytes, however it is spelled.
abbrev pub SnapshotIsShort : Type 0
SnapshotIsShort = (L : LinkedSet) → IsMergeable L → HoldBytes L → (n : ℕ) (c : Contents) → IsLittle L (state_after L n) c
    → AreShort (snapshot_module L (state_after L n) c)
