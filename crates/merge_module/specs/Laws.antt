-- What is so of the merged module of a linked set.
-- Part of the statement of laws: docs/LAWS.md, "It does what the set does", "It asks for no more
-- than the set, and isn't long" and "Laws of the parts".
use Rattle.std.specs.Prelude.{◌≡◌, ℕ, ◌+◌, ◌*◌, ◌≤◌, ◌<◌, ◌^◌, List, [], ◌∷◌, length, map, Contains, Ok}
use Rattle.std.specs.List.{All}
use Rattle.spec_reading.specs.wasm_form.declared.types.FuncType.{FuncType}
use Rattle.spec_reading.specs.wasm_form.declared.module.Code.{Code}
use Rattle.spec_reading.specs.wasm_form.declared.module.Module.{Module}
use Rattle.spec_reading.specs.spec_binary.Parts.{SpellsFunc}
use Rattle.spec_reading.specs.spec_binary.Modules.{SpellsModule}
use Rattle.spec_reading.specs.spec_binary.WellFormed.{IsFormedType, IsWellFormed}
use Rattle.spec_loading.specs.spec_runtime.Names.{HostName}
use Rattle.spec_loading.specs.spec_execution.Instances.{ModuleParts}
use Rattle.spec_loading.specs.spec_execution.OneModule.{module_opening, opened_state}
use Rattle.spec_loading.specs.spec_linking.Sets.{Member}
use Rattle.spec_loading.specs.spec_linking.Gathering.{IsSet, total_size}
use Rattle.spec_loading.specs.spec_linking.LinkedSets.{LinkedSet, hosts_of}
use Rattle.spec_loading.specs.spec_linking.Slots.{linked_plan, table_entries}
use Rattle.spec_loading.specs.spec_linking.Links.{Links}
use Rattle.spec_loading.specs.LoadedSet.{opening_memory}
use Rattle.spec_loading.specs.Merged.{Merged}
use Rattle.wasm_encode.specs.SectionSizes.{IsContents}
use Rattle.wasm_encode.specs.Weight.{weight}
use Rattle.merge_match.specs.Bounded.{IsBounded}
use Rattle.merge_match.specs.Laws.{HasParts}
use Rattle.merge_start.specs.Started.{IsOpened, IsReady, StartReady}
use Rattle.merge_start.specs.Laws.{CallsAreAnswered}
use Rattle.merge_index.specs.Numbering.{numbers_of, starts_of}
pub use Rattle.merge_module.specs.Shape.{IsSupported}
use Rattle.merge_module.specs.Shape.{StandsFor, HasShape}
use Rattle.merge_module.specs.MergedModule.{added_types, merged_module}

-- A set that links, within the limit of pages, over host functions of types that modules may use.
pub record IsMergeable (L : LinkedSet) : Type 0 where
  pub shape : IsSet L.set
  pub links : Links L
  pub pages : (linked_plan L).pages_max ≤ 16384
  pub hosts : All IsSupported (hosts_of L)

-- ---- what it does

-- What the laws of one step and of agreeing runs ask of a module, which the merged module has with the numbers of the set: the functions of
-- the members, code for each frame of the loader, and functions that answer the calls of the loader's. It opens with what the set begins with.
pub record MeetsPremises (L : LinkedSet) : Type 0 where
  pub parts : HasParts L (numbers_of L) (merged_module L)
  pub ready : IsReady L (numbers_of L) (starts_of L) (merged_module L)
  pub start : StartReady L (numbers_of L) (starts_of L) (merged_module L)
  pub calls : CallsAreAnswered L (numbers_of L) (starts_of L) (merged_module L)
  pub bounded : IsBounded (opening_memory L)
  pub opening : ModuleParts
  pub opens : module_opening (merged_module L) L.names ≡ Ok (opened_state (merged_module L) (starts_of L).starting opening (opening_memory L))
  pub opened : IsOpened L (numbers_of L) (starts_of L) opening

abbrev pub MergedIsReady : Type 0
MergedIsReady = (L : LinkedSet) → IsSet L.set → Links L → (linked_plan L).pages_max ≤ 16384 → MeetsPremises L

-- the merged module stands for the set, and bytes that spell it merge the set
abbrev pub MergedStands : Type 0
MergedStands = (L : LinkedSet) → IsMergeable L → StandsFor L (merged_module L)

abbrev pub SpelledMerges : Type 0
SpelledMerges = (L : LinkedSet) → IsMergeable L → (bytes : List ℕ) → SpellsModule (merged_module L) bytes → Merged L bytes

-- ---- its form

-- the merged module has a form that can be written, where the types have that the host table alone brings
abbrev pub MergedIsFormed : Type 0
MergedIsFormed = (L : LinkedSet) → IsMergeable L → All IsFormedType (added_types L) → IsWellFormed (merged_module L)

-- the merged module has this shape
abbrev pub MergedHasShape : Type 0
MergedHasShape = (L : LinkedSet) → IsMergeable L → HasShape L (merged_module L)

-- ---- how long it is

-- what types take: one for each, and one for each value that they take and give
abbrev pub types_bulk : List FuncType → ℕ
types_bulk [] = 0
types_bulk (ty ∷ tys) = 1 + (length ty.params + length ty.results) + types_bulk tys

-- how many bytes the names of members have
abbrev pub names_bulk : List Member → ℕ
names_bulk [] = 0
names_bulk (m ∷ ms) = length m.name + names_bulk ms

-- How much there is to write of the merged module, at most: so much for each byte of the files and of the members' names and for each member,
-- and one for each entry of the table and what the types of the host functions take.
abbrev pub most_weight : LinkedSet → ℕ
most_weight L =
    22 * total_size L.set.members + 5 * names_bulk L.set.members + 6057 * length L.set.members
    + table_entries L + types_bulk (map (λ (h : HostName). h.ty) (hosts_of L)) + 379

abbrev pub MergedIsInLine : Type 0
MergedIsInLine = (L : LinkedSet) → IsMergeable L → weight (merged_module L) ≤ most_weight L

-- A set whose members have short names, and whose host table brings short types where it alone brings them.
pub record IsBrief (L : LinkedSet) : Type 0 where
  pub types : types_bulk (added_types L) ≤ 33554432
  pub names : names_bulk L.set.members ≤ 16777216

-- The contents of each section take fewer than 2^32 bytes, however they are spelled, and so does each body.
pub record AreShort (m : Module) : Type 0 where
  pub contents : {id : ℕ} {w : List ℕ} → IsContents m id w → length w < 2 ^ 32
  pub bodies : (c : Code) → Contains m.codes c → (w : List ℕ) → SpellsFunc c w → length w < 2 ^ 32

-- no section of the merged module of such a set is too long to be written
abbrev pub MergedIsShort : Type 0
MergedIsShort = (L : LinkedSet) → IsMergeable L → IsBrief L → AreShort (merged_module L)
