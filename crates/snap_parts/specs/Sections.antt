-- The element and the data segments of the module, and how many there are.
-- Serves the contracts of this crate, which follow Held of `snap_module`.
use Rattle.std.specs.Prelude.{◌≡◌, ◌≤◌, ◌<◌, ◌^◌, ℕ, List, [], ◌∷◌, ◌++◌, length, map, Bool, Option}
use Rattle.spec_loading.specs.wasm_form.declared.module.Elem.{Elem}
use Rattle.spec_loading.specs.wasm_form.declared.module.Data.{Data}
use Rattle.spec_loading.specs.wasm_form.declared.module.Module.{Module}
use Rattle.spec_loading.specs.wasm_form.declared.runtime.Ref.{Ref}
use Rattle.spec_loading.specs.spec_binary.IndexSpaces.{function_space}
use Rattle.spec_loading.specs.spec_runtime.Memories.{MemoryInstance}
use Rattle.spec_loading.specs.spec_runtime.Tables.{TableInstance}
use Rattle.snap_module.specs.Held.{Stretch, passive_data, table_elems, memory_data, declared_elem}
use Rattle.spec_snapshots.specs.Stretches.{IsSparse, AreSparse, memory_gap, tables_gap}
use Rattle.snap_parts.specs.Zips.{zip_by, elem_by}

-- the segments of tables
pub record TablesAlone (xs : List TableInstance) (segments : List Elem) : Type 0 where
  pub stretches : List (List (Stretch (Option Ref)))
  pub sparse : AreSparse (tables_gap xs) xs stretches
  pub put : segments ≡ table_elems 0 stretches

-- all element segments
pub record ElemsHeld (m : Module) (left : List Bool) (xs : List TableInstance) (elems : List Elem) : Type 0 where
  pub stretches : List (List (Stretch (Option Ref)))
  pub sparse : AreSparse (tables_gap xs) xs stretches
  pub held : elems ≡ zip_by elem_by m.elems left ++ (table_elems 0 stretches ++ declared_elem m ∷ [])
  pub few : length left ≤ 2 ^ 30
  pub few_applied : length (table_elems 0 stretches) ≤ 2 ^ 30
  pub few_tables : length xs ≤ 2 ^ 30
  pub few_functions : length (function_space m) < 2 ^ 32

-- the segments of the memory
pub record MemoryAlone (memory : MemoryInstance) (segments : List Data) : Type 0 where
  pub stretches : List (Stretch ℕ)
  pub sparse : IsSparse 0 (memory_gap memory) memory.bytes stretches
  pub put : segments ≡ map memory_data stretches

-- all data segments
pub record DatasHeld (bytes : List (List ℕ)) (memory : MemoryInstance) (datas : List Data) : Type 0 where
  pub stretches : List (Stretch ℕ)
  pub sparse : IsSparse 0 (memory_gap memory) memory.bytes stretches
  pub held : datas ≡ map passive_data bytes ++ (passive_data [] ∷ map memory_data stretches)
  pub few : length bytes ≤ 2 ^ 30
  pub few_written : length stretches ≤ 65536
