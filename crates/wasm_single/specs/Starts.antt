-- What a run of one module starts from.
-- Serves the contracts of this crate, which follow OneModule of `spec_execution`.
use Rattle.std.specs.Prelude.{◌≡◌, List, [], ◌∷◌, map, slice_get, Option, None, Result, Ok, Err, Vec}
use Rattle.std.specs.declared.alloc.Global.{Global}
use Rattle.wasm_form.specs.declared.types.FuncType.{FuncType}
use Rattle.wasm_form.specs.declared.module.Import.{Import}
use Rattle.wasm_form.specs.declared.module.ImportDesc.{ImportDesc}
use Rattle.wasm_form.specs.declared.module.ImportDesc.TheVariants as imported
use Rattle.wasm_form.specs.declared.module.Module.{Module}
use Rattle.spec_safety.specs.spec_runtime.Names.{HostNames}
use Rattle.spec_safety.specs.spec_execution.Instances.{hosts_in, named_host, imported_hosts}
use Rattle.spec_safety.specs.spec_execution.OneModule.{ModuleState, import_met, imports_met, opened_after}
use Rattle.host_table.specs.Names.{host_name_of}
use Rattle.host_table.specs.declared.host.HostName.{HostName}
use Rattle.spec_safety.specs.spec_execution.declared.fault.SingleFault.{SingleFault}
use Rattle.spec_safety.specs.spec_execution.declared.fault.SingleFault.TheVariants as fault

-- the type of an imported function
abbrev pub type_imported : Module → ImportDesc → Option FuncType
type_imported m (imported.Func t) = slice_get m.types t
type_imported m (imported.Table ty) = None
type_imported m (imported.Space limits) = None
type_imported m (imported.Global ty) = None

-- what is told is the fault that a definition gives, or that memory was wanting
abbrev pub IsTold : {A : Type 0} → Result A SingleFault → SingleFault → Type 0
IsTold wanted fault.Memory = Unit {0}
IsTold wanted why = wanted ≡ Err why

-- this fault is told, or that memory was wanting
abbrev pub TellsCause : SingleFault → SingleFault → Type 0
TellsCause cause fault.Memory = Unit {0}
TellsCause cause why = cause ≡ why

-- that an import isn't a declared host function, or is one of another type
abbrev pub unknown_import : Import → SingleFault
unknown_import i = fault.HostImport i.module i.field

abbrev pub other_import : Import → SingleFault
other_import i = fault.HostType i.module i.field

-- an import is met by a host function; or why it isn't is told, or memory was wanting
abbrev pub MeetsOne : Module → HostNames → Import → Result HostName SingleFault → Type 0
MeetsOne m names i (Ok host) = (import_met m names i ≡ Ok tt) × (map (named_host i) (hosts_in m i.desc) ≡ host_name_of host ∷ [])
MeetsOne m names i (Err why) = IsTold (import_met m names i) why

-- some of the imports are met and their host functions are listed; or the first that isn't is told, or memory was wanting
abbrev pub Meets : Module → HostNames → List Import → Result (Vec HostName Global) SingleFault → Type 0
Meets m names imports (Ok hosts) = (imports_met m names imports ≡ Ok tt) × (map host_name_of hosts.items ≡ imported_hosts m imports)
Meets m names imports (Err why) = IsTold (imports_met m names imports) why

-- the state from which a module runs, if its imports are met
abbrev pub opened : Module → Result ModuleState SingleFault
opened m = opened_after m (Ok tt)
