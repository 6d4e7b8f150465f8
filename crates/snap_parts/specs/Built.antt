-- What the module that holds a state is made of, and what it is.
-- Serves the contracts of this crate, which follow Held of `snap_module`.
use Rattle.std.specs.Prelude.{◌≡◌, ◌<◌, ◌^◌, ℕ, [], ◌∷◌, length, map}
use Rattle.spec_loading.specs.wasm_form.declared.module.Module.{Module}
use Rattle.spec_loading.specs.wasm_form.declared.runtime.Value.TheVariants.{Num}
use Rattle.spec_loading.specs.spec_binary.IndexSpaces.{function_space}
use Rattle.spec_loading.specs.spec_runtime.Memories.{MemoryInstance}
use Rattle.spec_loading.specs.spec_execution.Instances.{ModuleParts}
use Rattle.merge_match.specs.Renumbering.{Numbers, table_instance}
use Rattle.merge_match.specs.Parts.{extended, AreFew}
use Rattle.snap_module.specs.Held.{Contents, held, held_parts}
use Rattle.spec_snapshots.specs.Stretches.{IsWritten}
pub use Rattle.snap_parts.specs.Zips.{is_left}
use Rattle.snap_parts.specs.declared.given.Flat as declared
use Rattle.snap_parts.specs.declared.given.Added.{Added}

-- what a run has, by addresses
abbrev pub store_in : declared.Flat → ModuleParts
store_in f = record { globals = f.globals.now; tables = f.tables.now; elems = map (λ v. v.items) f.elems.now; datas = map (λ d. d.now) f.datas.now }

-- What the merged module has behind the store: globals of numbers, no tables, element segments of which some are left, and one data segment,
-- which was applied when the module was opened.
pub record AreAdded (a : Added) (more : ModuleParts) : Type 0 where
  pub globals : more.globals ≡ map Num a.globals.now
  pub tables : more.tables ≡ []
  pub left : map is_left more.elems ≡ a.left.now
  pub datas : more.datas ≡ [] ∷ []

-- A module holds a store, by the numbers, with what is added, and a memory, of which and of whose tables little is written.
pub record IsBuilt (merged : Module) (entry : ℕ) (n : Numbers) (us : ModuleParts) (a : Added) (memory : MemoryInstance) (m : Module) : Type 0 where
  pub contents : Contents
  pub written : IsWritten memory (map (table_instance n) us.tables) contents
  pub few : (more : ModuleParts) → AreAdded a more → AreFew (held_parts (extended n us more) contents)
  pub functions : length (function_space merged) < 2 ^ 32
  pub held : (more : ModuleParts) → AreAdded a more → m ≡ held merged entry (extended n us more) memory contents
