-- What an import stands for.
-- Serves the contracts of this crate, which follow Imports of `spec_linking`.
use Rattle.std.specs.Prelude.{Bool, true, false, bytes_eq, codes, if◌then◌else◌}
use Rattle.wasm_form.specs.declared.module.Import.{Import}
use Rattle.spec_loading.specs.spec_linking.Imports as imports
use Rattle.dyl_imports.specs.declared.uses.Use.{Use}
use Rattle.dyl_imports.specs.declared.uses.Use.TheVariants as code

-- as the meaning sees it
abbrev pub use_value : Use → imports.ImportUse
use_value code.SharedMemory = imports.SharedMemory
use_value code.SharedTable = imports.SharedTable
use_value code.StackPointer = imports.StackPointer
use_value code.MemoryBase = imports.MemoryBase
use_value code.TableBase = imports.TableBase
use_value code.DataCell = imports.DataCell
use_value code.SlotCell = imports.SlotCell
use_value (code.EnvFunction t) = imports.EnvFunction t
use_value (code.ModuleFunction t) = imports.ModuleFunction t
use_value code.Other = imports.OtherUse

-- an import of `env`
abbrev pub env_use : Import → imports.ImportUse
env_use i =
    if bytes_eq i.field (codes "memory") then imports.SharedMemory
    else if bytes_eq i.field (codes "__indirect_function_table") then imports.SharedTable
    else if bytes_eq i.field (codes "__stack_pointer") then imports.StackPointer
    else if bytes_eq i.field (codes "__memory_base") then imports.MemoryBase
    else if bytes_eq i.field (codes "__table_base") then imports.TableBase
    else imports.function_use true i.desc

-- a function, or the slot of one, by a name that all members share
abbrev pub shares_function : imports.ImportUse → Bool
shares_function (imports.EnvFunction t) = true
shares_function imports.SlotCell = true
shares_function _ = false
