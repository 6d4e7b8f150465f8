-- What is kept of an instance.
-- Serves the contracts of this crate, which follow Instances of `spec_execution`.
use Rattle.std.specs.Prelude.{◌≡◌, length, map}
use Rattle.wasm_form.specs.declared.module.Module.{Module}
use Rattle.spec_safety.specs.spec_binary.IndexSpaces.{functions_in, imports_of}
use Rattle.spec_safety.specs.spec_execution.Instances.{ModuleParts}
use Rattle.wasm_instance.specs.declared.opening.Parts.{Parts}
use Rattle.wasm_instance.specs.declared.instance.Instance.TheInside.{Inside}
use Rattle.wasm_instance.specs.Imports.{ImportsFunctions}
use Rattle.wasm_instance.specs.Rooms.{HaveRooms}
use Rattle.wasm_instance.specs.States.{InstanceState}

-- what changes of a module, as it is opened
abbrev pub parts_in : Parts → ModuleParts
parts_in p = record { globals = p.globals.items; tables = p.tables.items; elems = map (λ v. v.items) p.elems.items; datas = map (λ d. d.now) p.datas.items }

abbrev pub parts_of : Inside → ModuleParts
parts_of i = record { globals = i.globals.items; tables = i.tables.items; elems = map (λ v. v.items) i.elems.items; datas = map (λ d. d.now) i.datas.items }

abbrev pub state_of : Inside → InstanceState
state_of i = record { wasm = i.checked.now; parts = parts_of i; memory = i.memory }

-- each number of the module has its global, table or segment
pub record HasAll (m : Module) (parts : ModuleParts) : Type 0 where
  pub globals : length parts.globals ≡ length m.globals
  pub tables : length parts.tables ≡ length m.tables
  pub elems : length parts.elems ≡ length m.elems
  pub datas : length parts.datas ≡ length m.datas

pub record IsInstance (i : Inside) : Type 0 where
  pub source : ImportsFunctions i.checked.now i.imported
  pub hosts : i.host_types.items ≡ imports_of functions_in i.checked.now.imports
  pub rooms : HaveRooms i.checked.now (length i.checked.now.codes) i.rooms.items
  pub parts : HasAll i.checked.now (parts_of i)
