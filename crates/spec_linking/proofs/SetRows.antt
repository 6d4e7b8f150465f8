-- Worked sets: their plans, definitions, slots, cells and faults.
use Rattle.std.proofs.Common.{◌≡◌, ℕ, List, [], ◌∷◌, ◌++◌, Some, None, true, false, refl, replicate}
use Rattle.std.specs.Prelude.{codes, map, pos}
use Rattle.spec_execution.specs.wasm_form.declared.types.ValType.TheVariants.{I32, FuncRef}
use Rattle.spec_execution.specs.wasm_form.declared.types.FuncType.{FuncType}
use Rattle.spec_execution.specs.wasm_form.declared.instr.Instr.{out-Instr, Plain, Index, I32Const}
use Rattle.spec_execution.specs.wasm_form.declared.instr.Expr.{Expr}
use denote.Hole.Carrier.{out}
use Rattle.spec_execution.specs.wasm_form.declared.module.ImportDesc.TheVariants as imported
use Rattle.spec_execution.specs.wasm_form.declared.module.ElemMode.TheVariants as elem_mode
use Rattle.spec_execution.specs.wasm_form.declared.module.Import.{Import}
use Rattle.spec_execution.specs.wasm_form.declared.module.Module.{Module}
use Rattle.spec_execution.specs.wasm_form.declared.runtime.LoaderCall.TheVariants.{Dlopen, Dlsym}
use Rattle.spec_execution.specs.wasm_form.declared.runtime.Ref.TheVariants.{Own, Loader, Host, Stub}
use Rattle.spec_execution.specs.spec_runtime.Names.{no_names, with_names, with_rest}
use Rattle.spec_linking.specs.declared.fault.Kind.TheVariants as kind
use Rattle.spec_linking.specs.declared.fault.LinkFault.TheVariants.{MemoryLimit, TableLimit, NoEntry, TlsExport, Unresolved, IllTyped, Duplicate, OwnMemory}
use Rattle.spec_linking.specs.Records.{DylinkRecord, ImportNote, empty_record}
use Rattle.spec_linking.specs.Sets.{Member, default_options}
use Rattle.spec_linking.specs.Paths.{search_paths}
use Rattle.spec_linking.specs.Orders.{closure, scope, post_order}
use Rattle.spec_linking.specs.Plans.{default_link}
use Rattle.spec_linking.specs.LinkedSets.{LinkedSet, function_ref}
use Rattle.spec_linking.specs.Slots.{slot_of, fresh_slots, table_entries, table_most, heap_end, cells_of, cell_value, imported_number, member_number}
use Rattle.spec_linking.specs.Links.{link_fault, set_entry}
use Rattle.spec_linking.proofs.Samples.{empty_module, code_of, global_get, function_export, global_export, import_of, i32_global, env_function, got_func, got_mem, memory_base_import, table_base_import, stack_pointer_import, memory_import, table_import, at_base, member_of, with_region, set_with, linked_with, linked, one_function, from_to}

-- ---- the smallest main

abbrev smallest : LinkedSet
smallest = linked (member_of (codes "main.wasm") empty_record [] (one_function (codes "_start")) ∷ [])

smallest_links : link_fault smallest ≡ None
smallest_links = refl

smallest_entry : set_entry smallest.set.members ≡ Some 0
smallest_entry = refl

smallest_table : table_entries smallest ≡ 1
smallest_table = refl

smallest_most : table_most smallest ≡ 65537
smallest_most = refl

smallest_heap_end : heap_end smallest ≡ 131072
smallest_heap_end = refl

-- ---- a slot in a member's region is shared by all

abbrev shared_main : Module
shared_main = record (one_function (codes "_start")) { imports = got_func (codes "f") ∷ [] }

abbrev shared_a : Module
shared_a = record (one_function (codes "f")) { imports = table_import 0 ∷ table_base_import ∷ []; elems = at_base (global_get 0) (0 ∷ []) ∷ [] }

abbrev shared_b : Module
shared_b = record empty_module { imports = got_func (codes "f") ∷ [] }

abbrev shared : LinkedSet
shared = linked (
    member_of (codes "main.wasm") empty_record (1 ∷ 2 ∷ []) shared_main
    ∷ member_of (codes "a.so") (with_region 0 0 1 0) [] shared_a
    ∷ member_of (codes "b.so") empty_record [] shared_b ∷ [])

shared_links : link_fault shared ≡ None
unfolding out-Instr out
shared_links = refl

shared_slot : slot_of shared (Own 1 0) ≡ Some 1
unfolding out-Instr out
shared_slot = refl

shared_table : table_entries shared ≡ 2
unfolding out-Instr out
shared_table = refl

shared_most : table_most shared ≡ 65538
unfolding out-Instr out
shared_most = refl

shared_first_cell : map (cell_value shared 0) (cells_of shared_main) ≡ 1 ∷ []
unfolding out-Instr out
shared_first_cell = refl

shared_last_cell : map (cell_value shared 2) (cells_of shared_b) ≡ 1 ∷ []
unfolding out-Instr out
shared_last_cell = refl

-- ---- a diamond, of which the last member is needed by two

abbrev library : List ℕ → List ℕ → Member
library name needed = member_of name empty_record needed empty_module

abbrev diamond : LinkedSet
diamond = linked (
    member_of (codes "main.wasm") empty_record (1 ∷ 2 ∷ []) (one_function (codes "_start"))
    ∷ library (codes "a.so") (3 ∷ []) ∷ library (codes "b.so") (3 ∷ []) ∷ library (codes "c.so") [] ∷ [])

diamond_startup : diamond.set.startup ≡ 0 ∷ 1 ∷ 2 ∷ 3 ∷ []
diamond_startup = refl

diamond_closure : closure diamond.set 2 ≡ 2 ∷ 3 ∷ []
diamond_closure = refl

diamond_scope : scope diamond.set 2 ≡ 0 ∷ 1 ∷ 2 ∷ 3 ∷ []
diamond_scope = refl

diamond_post_order : post_order diamond.set 0 ≡ 3 ∷ 1 ∷ 2 ∷ 0 ∷ []
diamond_post_order = refl

-- members that need each other in a circle, and one that is opened later
circle_startup : closure (set_with (library [] (1 ∷ []) ∷ library [] (2 ∷ []) ∷ library [] (1 ∷ []) ∷ library [] (2 ∷ 0 ∷ []) ∷ [])) 3 ≡ 3 ∷ 2 ∷ 0 ∷ 1 ∷ []
circle_startup = refl

circle_scope : scope (set_with (library [] (1 ∷ []) ∷ library [] [] ∷ library [] [] ∷ library [] (2 ∷ 0 ∷ []) ∷ [])) 3 ≡ 0 ∷ 1 ∷ 3 ∷ 2 ∷ []
circle_scope = refl

-- ---- two definitions of one name

abbrev doubled : List ℕ → LinkedSet
doubled needed = linked (
    member_of (codes "main.wasm") empty_record needed (record empty_module { imports = env_function (codes "f") 0 ∷ []; funcs = 0 ∷ []; exports = function_export (codes "_start") 1 ∷ []; codes = code_of [] ∷ [] })
    ∷ member_of (codes "a.so") empty_record [] (one_function (codes "f"))
    ∷ member_of (codes "b.so") empty_record [] (one_function (codes "f")) ∷ [])

first_definition : function_ref (doubled (1 ∷ 2 ∷ [])) 0 0 ≡ Some (Own 1 0)
first_definition = refl

other_order : function_ref (doubled (2 ∷ 1 ∷ [])) 0 0 ≡ Some (Own 2 0)
other_order = refl

doubled_links : link_fault (doubled (1 ∷ 2 ∷ [])) ≡ None
doubled_links = refl

duplicate : link_fault (record (doubled (1 ∷ 2 ∷ [])) { options = record default_link { no_duplicates = true } }) ≡ Some (Duplicate (codes "f") 1 2)
duplicate = refl

-- ---- an undefined weak name

abbrev weak_main : Module
weak_main = record empty_module {
  imports = env_function (codes "w") 0 ∷ got_mem (codes "w") ∷ got_func (codes "w") ∷ [];
  funcs = 0 ∷ [];
  exports = function_export (codes "_start") 1 ∷ [];
  codes = code_of [] ∷ [];
}

abbrev weak_with : List ImportNote → LinkedSet
weak_with notes = linked (member_of (codes "main.wasm") (record empty_record { imports = notes }) [] weak_main ∷ [])

abbrev weak : LinkedSet
weak = weak_with (record { from_module = codes "env"; field = codes "w"; flags = 1 } ∷ [])

weak_links : link_fault weak ≡ None
weak_links = refl

weak_stub : function_ref weak 0 0 ≡ Some (Stub 0 0)
weak_stub = refl

weak_cells : map (cell_value weak 0) (cells_of weak_main) ≡ 0 ∷ 0 ∷ []
weak_cells = refl

not_weak : link_fault (weak_with []) ≡ Some (Unresolved 0 kind.Function (codes "w"))
not_weak = refl

-- ---- refused members

abbrev refused : DylinkRecord → Module → LinkedSet
refused dylink wasm = linked (member_of (codes "main.wasm") dylink [] wasm ∷ [])

thread_local : link_fault (refused (record empty_record { exports = record { name = codes "t"; flags = 256 } ∷ [] }) (one_function (codes "_start"))) ≡ Some (TlsExport 0 (codes "t"))
thread_local = refl

other_import : link_fault (refused empty_record (record (one_function (codes "_start")) { imports = import_of (codes "env") (codes "stuff") (i32_global false) ∷ [] })) ≡ Some (Unresolved 0 kind.Other (codes "stuff"))
other_import = refl

own_memory : link_fault (refused empty_record (record (one_function (codes "_start")) { memories = record { min = 1; max = None } ∷ [] })) ≡ Some (OwnMemory 0)
own_memory = refl

typed_constructors : link_fault (refused empty_record (record (one_function (codes "__wasm_call_ctors")) { funcs = 1 ∷ [] })) ≡ Some (IllTyped 0 kind.Function (codes "__wasm_call_ctors"))
typed_constructors = refl

no_entry : link_fault (refused empty_record (one_function (codes "start"))) ≡ Some NoEntry
no_entry = refl

-- a function of the memory's name is no memory
memory_function : link_fault (refused empty_record (record (one_function (codes "_start")) { imports = env_function (codes "memory") 0 ∷ [] })) ≡ Some (IllTyped 0 kind.Other (codes "memory"))
memory_function = refl

-- an exported global whose value is computed from a base defines nothing
abbrev computed_main : Module
computed_main = record (one_function (codes "_start")) { imports = got_mem (codes "g") ∷ [] }

abbrev computed_library : Expr → Module
computed_library init = record empty_module { imports = memory_base_import ∷ []; globals = record { ty = record { value = I32; mutable = false }; init = init } ∷ []; exports = global_export (codes "g") 1 ∷ [] }

abbrev computed : Expr → LinkedSet
computed init = linked (
    member_of (codes "main.wasm") empty_record (1 ∷ []) computed_main ∷ member_of (codes "a.so") (with_region 8 2 0 0) [] (computed_library init) ∷ [])

computed_from_base : link_fault (computed (global_get 0)) ≡ Some (Unresolved 0 kind.Mem (codes "g"))
unfolding out-Instr out
computed_from_base = refl

-- the same, where a number is added to the base
added_to_base : link_fault (computed (record { list = Index 0x23 0 ∷ I32Const (pos 8) ∷ Plain 0x6A ∷ [] })) ≡ Some (Unresolved 0 kind.Mem (codes "g"))
unfolding out-Instr out
added_to_base = refl

constant_data : link_fault (computed (record { list = I32Const (pos 6) ∷ [] })) ≡ None
unfolding out-Instr out
constant_data = refl

constant_cell : map (cell_value (computed (record { list = I32Const (pos 6) ∷ [] })) 0) (cells_of computed_main) ≡ 66670 ∷ []
unfolding out-Instr out
constant_cell = refl

-- two times three; and seven minus nine, times three, modulo 2^32
multiplied_data : link_fault (computed (record { list = I32Const (pos 2) ∷ I32Const (pos 3) ∷ Plain 0x6C ∷ [] })) ≡ None
unfolding out-Instr out
multiplied_data = refl

multiplied_cell : map (cell_value (computed (record { list = I32Const (pos 2) ∷ I32Const (pos 3) ∷ Plain 0x6C ∷ [] })) 0) (cells_of computed_main) ≡ 66670 ∷ []
unfolding out-Instr out
multiplied_cell = refl

subtracted_cell : map (cell_value (computed (record { list = I32Const (pos 7) ∷ I32Const (pos 9) ∷ Plain 0x6B ∷ I32Const (pos 3) ∷ Plain 0x6C ∷ [] })) 0) (cells_of computed_main) ≡ 66658 ∷ []
unfolding out-Instr out
subtracted_cell = refl

-- a segment goes to the base and four bytes more
segment_place : member_number (computed (global_get 0)) 1 (record { list = Index 0x23 0 ∷ I32Const (pos 4) ∷ Plain 0x6A ∷ [] }) ≡ Some 66668
unfolding out-Instr out
segment_place = refl

-- ---- both limits

abbrev of_regions : List DylinkRecord → LinkedSet
of_regions regions = linked (member_of (codes "main.wasm") empty_record [] (one_function (codes "_start")) ∷ map (λ d. member_of [] d [] empty_module) regions)

abbrev generated_regions : List DylinkRecord
generated_regions = replicate 39 (with_region 8 2 0 0) ++ (with_region 8 16 0 0 ∷ [])

too_many_pages : link_fault (record (of_regions generated_regions) { options = record default_link { pages = 1 } }) ≡ Some (MemoryLimit 3 1)
too_many_pages = refl

too_many_entries : link_fault (of_regions (with_region 0 0 983040 0 ∷ [])) ≡ Some (TableLimit 983041 983040)
too_many_entries = refl

-- an import's minimum is above another's maximum
abbrev bounded : Module
bounded = record empty_module { imports = import_of (codes "env") (codes "memory") (imported.Space (record { min = 1; max = Some 5 })) ∷ [] }

least_maximum : link_fault (linked (
    member_of (codes "main.wasm") empty_record (1 ∷ []) (record (one_function (codes "_start")) { imports = memory_import 6 ∷ [] }) ∷ member_of (codes "a.so") empty_record [] bounded ∷ [])) ≡ Some (MemoryLimit 6 5)
least_maximum = refl

-- the fresh slots are too many, where the regions are not
fresh_limit : link_fault (linked (
    member_of (codes "main.wasm") empty_record (1 ∷ []) (record (one_function (codes "_start")) { imports = import_of (codes "env") (codes "__indirect_function_table") (imported.Table (record { elem = FuncRef; limits = record { min = 1; max = Some 1 } })) ∷ [] })
    ∷ member_of (codes "a.so") empty_record [] (one_function (codes "f")) ∷ [])) ≡ Some (TableLimit 2 1)
fresh_limit = refl

-- ---- the paths at which a name is searched

searched_paths : search_paths (record { main = codes "app/main.wasm"; dl = []; paths = codes "x" ∷ [] }) (codes "app/main.wasm") (codes "$ORIGIN/lib" ∷ []) (codes "a.so")
    ≡ codes "app/lib/a.so" ∷ codes "x/a.so" ∷ codes "app/a.so" ∷ []
searched_paths = refl

without_folder : search_paths (default_options (codes "main.wasm")) (codes "main.wasm") (codes "$ORIGIN" ∷ []) (codes "a.so") ≡ codes "./a.so" ∷ codes "a.so" ∷ []
without_folder = refl

with_slash : search_paths (default_options (codes "main.wasm")) (codes "main.wasm") (codes "lib" ∷ []) (codes "b/a.so") ≡ codes "b/a.so" ∷ []
with_slash = refl

-- ---- a whole program

abbrev wasi : List ℕ
wasi = codes "wasi_snapshot_preview1"

abbrev write_type : FuncType
write_type = from_to (I32 ∷ I32 ∷ I32 ∷ I32 ∷ []) (I32 ∷ [])

abbrev fd_write : Import
fd_write = import_of wasi (codes "fd_write") (imported.Func 2)

abbrev write_module : Module
write_module = record empty_module { types = from_to [] [] ∷ from_to (I32 ∷ []) (I32 ∷ []) ∷ write_type ∷ [] }

abbrev program_main : Module
program_main = record write_module {
  imports = memory_import 1 ∷ table_import 1 ∷ stack_pointer_import ∷ memory_base_import ∷ table_base_import ∷ env_function (codes "greet") 0 ∷ fd_write ∷ got_mem (codes "greeting") ∷ got_func (codes "greet") ∷ [];
  funcs = 0 ∷ 0 ∷ 0 ∷ 0 ∷ [];
  exports = function_export (codes "_start") 2 ∷ function_export (codes "__wasm_call_ctors") 3 ∷ function_export (codes "__wasm_apply_data_relocs") 4 ∷ [];
  elems = at_base (global_get 2) (5 ∷ []) ∷ [];
}

abbrev program_library : Module
program_library = record write_module {
  imports = memory_import 0 ∷ table_import 0 ∷ memory_base_import ∷ table_base_import ∷ fd_write ∷ [];
  funcs = 0 ∷ 0 ∷ [];
  globals = record { ty = record { value = I32; mutable = false }; init = record { list = I32Const (pos 8) ∷ [] } } ∷ [];
  exports = global_export (codes "greeting") 2 ∷ function_export (codes "greet") 1 ∷ [];
  elems = at_base (global_get 1) (2 ∷ []) ∷ [];
}

abbrev program : LinkedSet
program = linked_with (with_names no_names (record { module_name = wasi; name = codes "fd_write"; ty = write_type } ∷ [])) (
    member_of (codes "main.wasm") (with_region 32 4 1 0) (1 ∷ []) program_main ∷ member_of (codes "libgreet.so") (with_region 20 2 1 0) [] program_library ∷ [])

program_links : link_fault program ≡ None
unfolding out-Instr out
program_links = refl

program_table : table_entries program ≡ 4
unfolding out-Instr out
program_table = refl

program_most : table_most program ≡ 65540
unfolding out-Instr out
program_most = refl

program_slots : fresh_slots program ≡ Own 1 1 ∷ []
unfolding out-Instr out
program_slots = refl

program_functions : map (function_ref program 0) (0 ∷ 1 ∷ 2 ∷ []) ≡ Some (Own 1 1) ∷ Some (Host 0) ∷ Some (Own 0 2) ∷ []
unfolding out-Instr out
program_functions = refl

program_cells : map (cell_value program 0) (cells_of program_main) ≡ 66712 ∷ 3 ∷ []
unfolding out-Instr out
program_cells = refl

-- two imports give a host function two types, which its module declares both
abbrev two_types : LinkedSet
two_types = linked_with (with_rest no_names wasi) (
    member_of (codes "main.wasm") empty_record (1 ∷ []) (record (one_function (codes "_start")) { types = from_to [] [] ∷ from_to [] (I32 ∷ []) ∷ []; imports = import_of wasi (codes "f") (imported.Func 1) ∷ []; exports = function_export (codes "_start") 1 ∷ [] })
    ∷ member_of (codes "a.so") empty_record [] (record empty_module { imports = import_of wasi (codes "f") (imported.Func 1) ∷ [] }) ∷ [])

two_types_fault : link_fault two_types ≡ Some (IllTyped 1 kind.Function (codes "f"))
two_types_fault = refl

-- a cell of a function of the loader has a fresh slot, which follows those of the members
abbrev loader_cells : LinkedSet
loader_cells = linked (member_of (codes "main.wasm") empty_record [] (record (one_function (codes "f")) { imports = got_func (codes "dlsym") ∷ got_func (codes "dlopen") ∷ got_func (codes "dlsym") ∷ []; exports = function_export (codes "f") 0 ∷ function_export (codes "main") 0 ∷ [] }) ∷ [])

loader_slots : fresh_slots loader_cells ≡ Own 0 0 ∷ Loader Dlopen ∷ Loader Dlsym ∷ []
loader_slots = refl

loader_cell_values : map (cell_value loader_cells 0) ((kind.Func, codes "dlsym") ∷ (kind.Func, codes "dlopen") ∷ []) ≡ 3 ∷ 2 ∷ []
loader_cell_values = refl

-- the initial values of imported globals: the stack pointer, the bases, and two cells
program_globals : map (imported_number program 0) (0 ∷ 1 ∷ 2 ∷ 3 ∷ 4 ∷ 5 ∷ []) ≡ Some 66560 ∷ Some 66672 ∷ Some 1 ∷ Some 66712 ∷ Some 3 ∷ None ∷ []
unfolding out-Instr out
program_globals = refl

-- two imports of the table are both the shared one, and a segment on the second is on the shared table
abbrev two_tables : Module
two_tables = record (one_function (codes "f")) { imports = table_import 0 ∷ table_import 0 ∷ table_base_import ∷ []; elems = record (at_base (global_get 0) (0 ∷ [])) { mode = elem_mode.Active 1 (global_get 0) } ∷ [] }

second_table : slot_of (linked (member_of (codes "main.wasm") (with_region 0 0 1 0) [] two_tables ∷ [])) (Own 0 0) ≡ Some 1
unfolding out-Instr out
second_table = refl

-- a later segment of the member writes over an earlier one: the function that is left nowhere in the region has a fresh slot
abbrev overwritten : Module
overwritten = record empty_module { imports = table_import 0 ∷ table_base_import ∷ []; funcs = 0 ∷ 0 ∷ []; exports = function_export (codes "f") 0 ∷ function_export (codes "g") 1 ∷ []; elems = at_base (global_get 0) (0 ∷ []) ∷ at_base (global_get 0) (1 ∷ []) ∷ [] }

overwritten_slots : map (slot_of (linked (member_of (codes "main.wasm") (with_region 0 0 1 0) [] overwritten ∷ []))) (Own 0 0 ∷ Own 0 1 ∷ Own 0 2 ∷ []) ≡ Some 2 ∷ Some 1 ∷ None ∷ []
unfolding out-Instr out
overwritten_slots = refl
