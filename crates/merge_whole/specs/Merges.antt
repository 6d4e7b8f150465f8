-- What it is that bytes merge a linked set in the form that is written here, how much there is of a set, and when a section is too long.
-- This profile: docs/FORMATS.md, "What merge writes" and "How long it is".
use Rattle.std.specs.Prelude.{ℕ, ◌+◌, ◌*◌, ◌≤◌, ◌^◌, List, length, map, sum_by, Ok}
use Rattle.spec_reading.specs.spec_binary.Number.{IsShortest}
use Rattle.spec_reading.specs.spec_binary.Modules.{SpellsModule}
use Rattle.spec_reading.specs.spec_binary.DecodeAnswers.{DecodeAnswer}
use Rattle.spec_loading.specs.spec_runtime.Names.{HostName}
use Rattle.spec_loading.specs.spec_linking.Gathering.{total_size}
use Rattle.spec_loading.specs.spec_linking.Sets.{Member}
use Rattle.spec_loading.specs.spec_linking.LinkedSets.{LinkedSet, hosts_of}
use Rattle.spec_loading.specs.spec_linking.Slots.{table_entries}
use Rattle.spec_loading.specs.Merged.{Merged}
use Rattle.wasm_encode.specs.SectionSizes.{IsFirstTooLong}
use Rattle.merge_module.specs.Laws.{types_bulk}
pub use Rattle.merge_module.specs.Shape.{HasShape, StandsFor, IsSupported}
use Rattle.merge_module.specs.MergedModule.{merged_module}

-- How many bytes are written for a set at most: so many for each byte of its files and of its members' names, for each member and for each entry of
-- the table, and for each host function and each value that it takes and gives.
abbrev pub most_bytes : LinkedSet → ℕ
most_bytes L =
    352 * total_size L.set.members + 80 * sum_by (λ (m : Member). length m.name) L.set.members + 96912 * length L.set.members
    + 16 * table_entries L + 16 * types_bulk (map (λ (h : HostName). h.ty) (hosts_of L)) + 6320

-- The bytes are the shortest that spell the merged module of the set. Of these there is one list: the same set has the same bytes each time.
abbrev pub AreShortestFor : LinkedSet → List ℕ → Type 0
AreShortestFor L bytes = IsShortest (SpellsModule (merged_module L)) bytes

-- the bytes merge the set, and are in line with it; the module that they spell for it has this shape, and is what they are decoded to; and they
-- are the shortest
pub record Merges (L : LinkedSet) (bytes : List ℕ) : Type 0 where
  pub merged : Merged L bytes
  pub shape : HasShape L merged.wasm
  pub decoded : DecodeAnswer bytes (Ok merged.wasm)
  pub shortest : AreShortestFor L bytes
  pub size : length bytes ≤ most_bytes L

-- How much there is of a set: 256 times the bytes of its files and of its members' names, and 64 times the square of their number. What is
-- written for it is in line with that.
abbrev pub bulk_of : List Member → ℕ
bulk_of members = 256 * (total_size members + sum_by (λ (m : Member). length m.name) members) + 64 * length members ^ 2

abbrev pub bulk : LinkedSet → ℕ
bulk L = bulk_of L.set.members

-- The merged module of the set, which stands for it and is of this shape, has a section with this number that is too long to be written, the
-- first such one; and there is much of the set.
pub record IsTooLongFor (L : LinkedSet) (id : ℕ) : Type 0 where
  pub stands : StandsFor L (merged_module L)
  pub shape : HasShape L (merged_module L)
  pub first : IsFirstTooLong (merged_module L) id
  pub big : 2 ^ 32 ≤ bulk L

-- none is too long
abbrev pub HasNoLongSection : LinkedSet → Type 0
HasNoLongSection L = (id : ℕ) → ¬ IsFirstTooLong (merged_module L) id
