-- The parts of a module, one after the other, as they are changed for a state.
-- Serves the contracts of this crate, which follow Held of `snap_module`.
use Rattle.std.specs.Prelude.{◌≡◌, ◌≤◌, ◌^◌, ℕ, ◌++◌, length, map, None, Some}
use Rattle.spec_loading.specs.wasm_form.declared.module.Module.{Module}
use Rattle.spec_loading.specs.wasm_form.declared.runtime.Value.TheVariants.{Num}
use Rattle.spec_loading.specs.spec_runtime.Memories.{MemoryInstance}
use Rattle.spec_loading.specs.spec_execution.Instances.{ModuleParts}
use Rattle.merge_match.specs.Renumbering.{Numbers, value, table_instance}
use Rattle.snap_module.specs.Held.{held_globals, held_tables, held_memories, entry_exports}
use Rattle.snap_parts.specs.declared.given.Added.{Added}
use Rattle.snap_parts.specs.Sections.{ElemsHeld, DatasHeld}
use Rattle.snap_parts.specs.Zips.{is_left}

pub record WithGlobals (n : Numbers) (us : ModuleParts) (a : Added) (m now : Module) : Type 0 where
  pub is : now ≡ record m { globals = held_globals m.globals (map (value n) us.globals ++ map Num a.globals.now) }
  pub few : length us.globals ≤ 2 ^ 30
  pub few_more : length a.globals.now ≤ 2 ^ 30

pub record WithTables (us : ModuleParts) (m now : Module) : Type 0 where
  pub is : (n : Numbers) → now ≡ record m { tables = held_tables m.tables (map (table_instance n) us.tables) }

pub record WithMemory (memory : MemoryInstance) (m now : Module) : Type 0 where
  pub is : now ≡ record m { memories = held_memories m.memories memory }

pub record WithExports (entry : ℕ) (m now : Module) : Type 0 where
  pub is : now ≡ record m { exports = entry_exports entry; start = None }

pub record WithElems (n : Numbers) (us : ModuleParts) (a : Added) (m now : Module) : Type 0 where
  pub is : now ≡ record m { elems = now.elems }
  pub elems : ElemsHeld m (map is_left us.elems ++ a.left.now) (map (table_instance n) us.tables) now.elems

pub record WithDatas (us : ModuleParts) (memory : MemoryInstance) (m now : Module) : Type 0 where
  pub is : now ≡ record m { datas = now.datas; data_count = Some (length now.datas) }
  pub datas : DatasHeld us.datas memory now.datas
