-- The globals and the tables of the run of a linked set: which of them the numbers of its members lead to, their addresses, and the types
-- of the globals with the values with which they begin.
-- Part of the statement of laws: docs/LAWS.md, "Laws of the parts".
use Rattle.std.specs.Prelude.{ℕ, ◌-◌, slice_get, Option, Some, None, unwrap_or, if◌then◌else◌}
use Rattle.spec_linking.specs.wasm_form.declared.types.ValType.{ValType}
use Rattle.spec_linking.specs.wasm_form.declared.types.ValType.TheVariants.{I32}
use Rattle.spec_linking.specs.wasm_form.declared.module.Import.{Import}
use Rattle.spec_linking.specs.wasm_form.declared.module.Module.{Module}
use Rattle.spec_linking.specs.wasm_form.declared.runtime.Value.{Value}
use Rattle.spec_linking.specs.wasm_form.declared.runtime.Value.TheVariants.{Num}
use Rattle.spec_linking.specs.spec_binary.Options.{◌>>=◌}
use Rattle.spec_linking.specs.spec_binary.IndexSpaces.{globals_in}
use Rattle.spec_linking.specs.Definitions.{imported_globals}
use Rattle.spec_linking.specs.Imports.{ImportUse, StackPointer, MemoryBase, TableBase, DataCell, SlotCell, use_of, importing}
use Rattle.spec_linking.specs.declared.fault.Kind.TheVariants as kind
use Rattle.spec_linking.specs.LinkedSets.{LinkedSet, wasm_of, definition}
use Rattle.spec_linking.specs.Slots.{linked_plan, memory_base, table_base, as_number, member_constant, is_shared_table, CellName, cell_number}
use Rattle.spec_loading.specs.Addresses.{stack_pointer_address, memory_base_address, table_base_address, cell_address, own_global_address, shared_table_address, imported_tables, own_table_address}

-- ---- globals

-- A global of the run: the stack pointer, which all members share; of a member its memory base, its table base and each of its cells; and
-- the k-th of the globals that a member defines.
pub data RunGlobal : Type 0 where
  SharedStackPointer : RunGlobal
  MemberMemoryBase MemberTableBase : ℕ → RunGlobal
  MemberCell : ℕ → CellName → RunGlobal
  MemberGlobal : ℕ → ℕ → RunGlobal

-- the one that an import of member m is, where it stands for this
abbrev pub imported_as : ℕ → Import → ImportUse → Option RunGlobal
imported_as m i StackPointer = Some SharedStackPointer
imported_as m i MemoryBase = Some (MemberMemoryBase m)
imported_as m i TableBase = Some (MemberTableBase m)
imported_as m i DataCell = Some (MemberCell m (kind.Mem, i.field))
imported_as m i SlotCell = Some (MemberCell m (kind.Func, i.field))
imported_as m i _ = None

-- the first numbers are those of imported globals
abbrev pub run_global_with : ℕ → Module → ℕ → Option Import → Option RunGlobal
run_global_with m wasm g (Some i) = imported_as m i (use_of i)
run_global_with m wasm g None = Some (MemberGlobal m (g - imported_globals wasm))

-- the one that global g of member m is
abbrev pub run_global : LinkedSet → ℕ → ℕ → Option RunGlobal
run_global L m g = wasm_of L m >>= λ wasm. run_global_with m wasm g (slice_get (importing globals_in wasm.imports) g)

-- the address of one that there is
abbrev pub address_of_global : LinkedSet → RunGlobal → Option ℕ
address_of_global L SharedStackPointer = Some stack_pointer_address
address_of_global L (MemberMemoryBase m) = wasm_of L m >>= λ wasm. Some (memory_base_address L m)
address_of_global L (MemberTableBase m) = wasm_of L m >>= λ wasm. Some (table_base_address L m)
address_of_global L (MemberCell m c) = wasm_of L m >>= λ wasm. cell_address L m wasm c
address_of_global L (MemberGlobal m k) = wasm_of L m >>= λ wasm. own_global_address L m wasm k

-- The type of a global of the run. All but those that members define are numbers of 32 bits.
abbrev pub run_global_type : LinkedSet → RunGlobal → ValType
run_global_type L SharedStackPointer = I32
run_global_type L (MemberMemoryBase m) = I32
run_global_type L (MemberTableBase m) = I32
run_global_type L (MemberCell m c) = I32
run_global_type L (MemberGlobal m k) = unwrap_or (wasm_of L m >>= λ wasm. slice_get wasm.globals k >>= λ g. Some g.ty.value) I32

-- The value with which one begins: the top of the stack, the bases of the member, what its cells hold of their names, and the values of the
-- constant expressions of its globals.
abbrev pub first_value : LinkedSet → RunGlobal → Option Value
first_value L SharedStackPointer = Some (Num (linked_plan L).stack_top)
first_value L (MemberMemoryBase m) = as_number (memory_base L m)
first_value L (MemberTableBase m) = as_number (table_base L m)
first_value L (MemberCell m c) = as_number (cell_number L c.1 (definition L m c.0 c.1))
first_value L (MemberGlobal m k) = wasm_of L m >>= λ wasm. slice_get wasm.globals k >>= λ g. member_constant L m g.init

-- ---- tables

-- A table of the run: the one that all members share, and the k-th of the tables that a member defines.
pub data RunTable : Type 0 where
  SharedFunctionTable : RunTable
  MemberTable : ℕ → ℕ → RunTable

-- the one that table t of member m is
abbrev pub run_table : LinkedSet → ℕ → ℕ → Option RunTable
run_table L m t =
    wasm_of L m >>= λ wasm. Some (if is_shared_table wasm t then SharedFunctionTable else MemberTable m (t - imported_tables wasm))

abbrev pub address_of_table : LinkedSet → RunTable → Option ℕ
address_of_table L SharedFunctionTable = Some shared_table_address
address_of_table L (MemberTable m k) = wasm_of L m >>= λ wasm. own_table_address L m wasm k
