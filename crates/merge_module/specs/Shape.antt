-- What a module is that merges a linked set: it stands for the set, and it has the shape of what is written for one. None of it is about how
-- the module is made.
-- This profile: docs/FORMATS.md, "What merge writes".
use Rattle.std.specs.Prelude.{◌≡◌, ℕ, List, [], ◌∷◌, map, slice_get, Option, Some, None, Ok, IsTrue}
use Rattle.spec_reading.specs.wasm_form.declared.types.ValType.TheVariants.{FuncRef}
use Rattle.spec_reading.specs.wasm_form.declared.types.FuncType.{FuncType}
use Rattle.spec_reading.specs.wasm_form.declared.types.Limits.{Limits}
use Rattle.spec_reading.specs.wasm_form.declared.types.TableType.{TableType}
use Rattle.spec_reading.specs.wasm_form.declared.module.ImportDesc.{ImportDesc}
use Rattle.spec_reading.specs.wasm_form.declared.module.ImportDesc.TheVariants as imported
use Rattle.spec_reading.specs.wasm_form.declared.module.Import.{Import}
use Rattle.spec_reading.specs.wasm_form.declared.module.Module.{Module}
use Rattle.spec_reading.specs.spec_binary.Options.{◌>>=◌}
use Rattle.spec_reading.specs.spec_binary.Indices.{function_type, nullary}
pub use Rattle.spec_merging.specs.Exports.{entry_exports}
use Rattle.spec_loading.specs.spec_runs.Agreement.{Agree}
use Rattle.spec_loading.specs.spec_runs.Costs.{AgreeWithin}
use Rattle.spec_loading.specs.spec_runtime.Names.{HostName}
use Rattle.spec_loading.specs.spec_validation.Faults.{fault, is_function_supported}
use Rattle.spec_loading.specs.spec_execution.Instances.{named_host}
use Rattle.spec_loading.specs.spec_execution.OneModule.{ModuleState, module_system, module_opening}
use Rattle.spec_loading.specs.spec_linking.LinkedSets.{LinkedSet, hosts_of}
use Rattle.spec_loading.specs.spec_linking.Slots.{linked_plan, table_entries, table_most}
use Rattle.spec_loading.specs.LoadedSet.{set_system, set_opening}
use Rattle.spec_loading.specs.SetCosts.{step_cost, set_room, module_depth}

-- a host function of types that modules may use
abbrev pub IsSupported : HostName → Type 0
IsSupported h = IsTrue (is_function_supported h.ty)

-- A module stands for a linked set: it is valid, it opens under the host names of the set, and its run agrees with that of the loaded set, within
-- what the set's steps cost and the room that it has.
pub record StandsFor (L : LinkedSet) (wasm : Module) : Type 0 where
  pub valid : fault wasm ≡ None
  pub opening : ModuleState
  pub opens : module_opening wasm L.names ≡ Ok opening
  pub agrees : Agree (set_system L) (module_system wasm) (set_opening L) opening
  pub within : AgreeWithin (set_system L) (module_system wasm) (step_cost L) set_room module_depth 1 (set_opening L) opening

-- the shared table and the memory, each with the planned sizes
abbrev pub shared_table_type : LinkedSet → TableType
shared_table_type L = record { elem = FuncRef; limits = record { min = table_entries L; max = Some (table_most L) } }

abbrev pub shared_memory_type : LinkedSet → Limits
shared_memory_type L = record { min = (linked_plan L).pages; max = Some (linked_plan L).pages_max }

-- the type that the module has for an imported function; what is no function has none
abbrev pub imported_type : Module → ImportDesc → Option FuncType
imported_type wasm (imported.Func t) = slice_get wasm.types t
imported_type wasm (imported.Table ty) = None
imported_type wasm (imported.Space limits) = None
imported_type wasm (imported.Global ty) = None

-- the host function that an import asks for, by its module, its name and its type
abbrev pub asked_host : Module → Import → Option HostName
asked_host wasm i = imported_type wasm i.desc >>= λ ty. Some (named_host i ty)

-- The module imports the host functions of the set and nothing else: each once, in the order of the first imports of them, with the type that it
-- has there. It has one memory and the shared table as its first, each with the planned sizes; it exports the entry function and the memory, and
-- nothing else; and it has no start function and no custom section.
pub record HasShape (L : LinkedSet) (wasm : Module) : Type 0 where
  pub imports : map (asked_host wasm) wasm.imports ≡ map Some (hosts_of L)
  pub table : slice_get wasm.tables 0 ≡ Some (shared_table_type L)
  pub memory : wasm.memories ≡ shared_memory_type L ∷ []
  pub entry : ℕ
  pub exports : wasm.exports ≡ entry_exports entry
  pub takes_nothing : function_type wasm entry ≡ Some nullary
  pub start : wasm.start ≡ None
  pub customs : wasm.customs ≡ []
