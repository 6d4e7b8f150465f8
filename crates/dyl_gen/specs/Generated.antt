-- The modules of the generated set of n members. Member 0 is the main module. The constructor of each member adds 1 to a value of the next
-- one, which holds that one's number, and the main module puts the sum of all values.
-- This profile: docs/FORMATS.md, "The generated set".
use Rattle.std.specs.Prelude.{ℕ, ◌+◌, ◌-◌, List, [], ◌∷◌, ◌++◌, Bool, true, false, nat_eq, if◌then◌else◌, Some, None, codes, decimal, pos}
use Rattle.std.specs.Int.{to_le_bytes, w32}
use Rattle.wasm_form.specs.declared.types.ValType.TheVariants.{I32, FuncRef}
use Rattle.wasm_form.specs.declared.types.FuncType.{FuncType}
use Rattle.wasm_form.specs.declared.types.GlobalType.{GlobalType}
use Rattle.wasm_form.specs.declared.instr.BlockType.TheVariants.{Value}
use Rattle.wasm_form.specs.declared.instr.Instr.{Instr, Plain, Index, If, CallIndirect, Access, I32Const}
use Rattle.wasm_form.specs.declared.module.ImportDesc.{ImportDesc}
use Rattle.wasm_form.specs.declared.module.ImportDesc.TheVariants as imported
use Rattle.wasm_form.specs.declared.module.Import.{Import}
use Rattle.wasm_form.specs.declared.module.GlobalDef.{GlobalDef}
use Rattle.wasm_form.specs.declared.module.ExportDesc.{ExportDesc}
use Rattle.wasm_form.specs.declared.module.ExportDesc.TheVariants as exported
use Rattle.wasm_form.specs.declared.module.Export.{Export}
use Rattle.wasm_form.specs.declared.module.Code.{Code}
use Rattle.wasm_form.specs.declared.module.DataMode.TheVariants as data_mode
use Rattle.wasm_form.specs.declared.module.Data.{Data}
use Rattle.wasm_form.specs.declared.module.Custom.{Custom}
use Rattle.wasm_form.specs.declared.module.Module.{Module}
use Rattle.spec_reading.specs.spec_binary.Sections.{empty_module}
use Rattle.spec_linking.specs.Records.{dylink_name}
use Rattle.dyl_section.specs.declared.record.Dylink.{Dylink}

-- ---- members and their names

abbrev pub is_main : ℕ → Bool
is_main k = nat_eq k 0

-- what the main module alone has
abbrev pub main_alone : {A : Type 0} → ℕ → List A → List A
main_alone k xs = if is_main k then xs else []

abbrev pub is_last : ℕ → ℕ → Bool
is_last n k = nat_eq (k + 1) n

-- the next member; after the last one comes the main module
abbrev pub next : ℕ → ℕ → ℕ
next n k = if is_last n k then 0 else k + 1

-- the file of a member, and a further one that the main module needs
abbrev pub file_name : ℕ → List ℕ
file_name k = if is_main k then codes "m0.wasm" else codes "m" ++ decimal k ++ codes ".so"

abbrev pub further_name : List ℕ
further_name = codes "e.so"

-- what a member defines: a function, and the value that the one before it adds to
abbrev pub function_name : ℕ → List ℕ
function_name k = codes "f" ++ decimal k

abbrev pub value_name : ℕ → List ℕ
value_name k = codes "v" ++ decimal k

-- ---- the `dylink.0` section

-- Eight bytes of memory: the value, and the address of the next member's value. The region of the last member is aligned to 65,536 bytes.
abbrev pub dylink : ℕ → ℕ → Dylink
dylink n k = record {
  mem_size = 8;
  mem_align = if is_last n k then 16 else 2;
  table_size = 0;
  table_align = 0;
  needed = file_name (next n k) ∷ main_alone k (further_name ∷ []);
  exports = [];
  imports = [];
  paths = [];
}

-- the record of a module that needs nothing
abbrev pub no_dylink : Dylink
no_dylink = record { mem_size = 0; mem_align = 0; table_size = 0; table_align = 0; needed = []; exports = []; imports = []; paths = [] }

abbrev pub dylink_section : List ℕ → Custom
dylink_section note = record { rank = 0; name = dylink_name; bytes = note }

-- ---- types and imports

abbrev pub no_numbers : FuncType
no_numbers = record { params = []; results = [] }

abbrev pub one_number : FuncType
one_number = record { params = I32 ∷ []; results = I32 ∷ [] }

-- the type of `fd_write`
abbrev pub four_numbers : FuncType
four_numbers = record { params = I32 ∷ I32 ∷ I32 ∷ I32 ∷ []; results = I32 ∷ [] }

abbrev pub types : ℕ → List FuncType
types k = no_numbers ∷ one_number ∷ main_alone k (four_numbers ∷ [])

abbrev pub import_of : List ℕ → List ℕ → ImportDesc → Import
import_of from field desc = record { «module» = from; field = field; desc = desc }

-- a global of 32 bits that may be set, or may not
abbrev pub number_type : Bool → GlobalType
number_type may_be_set = record { value = I32; mutable = may_be_set }

-- the shared memory and table, and the address of the member's region
abbrev pub shared_imports : List Import
shared_imports =
    import_of (codes "env") (codes "memory") (imported.Space (record { min = 1; max = None }))
    ∷ import_of (codes "env") (codes "__indirect_function_table") (imported.Table (record { elem = FuncRef; limits = record { min = 0; max = None } }))
    ∷ import_of (codes "env") (codes "__memory_base") (imported.Global (number_type false)) ∷ []

-- the address of the value of member x, and the slot of its function
abbrev pub cell_imports : ℕ → List Import
cell_imports x =
    import_of (codes "GOT.mem") (value_name x) (imported.Global (number_type true))
    ∷ import_of (codes "GOT.func") (function_name x) (imported.Global (number_type true)) ∷ []

abbrev pub main_imports : ℕ → List Import
main_imports x =
    import_of (codes "env") (function_name x) (imported.Func 1)
    ∷ import_of (codes "wasi_snapshot_preview1") (codes "fd_write") (imported.Func 2) ∷ []

abbrev pub imports : ℕ → ℕ → List Import
imports n k = shared_imports ++ (cell_imports (next n k) ++ main_alone k (main_imports (next n k)))

-- ---- instructions (WebAssembly Core 2.0, section 5.4)

abbrev pub number : ℕ → Instr
number c = I32Const (pos c)

abbrev pub call : ℕ → Instr
call f = Index 0x10 f

abbrev pub drop_value : Instr
drop_value = Plain 0x1A

abbrev pub parameter : Instr
parameter = Index 0x20 0

-- `i32.load` and `i32.store`
abbrev pub load : ℕ → Instr
load offset = Access 0x28 2 offset

abbrev pub store : ℕ → Instr
store offset = Access 0x36 2 offset

abbrev pub is_zero : Instr
is_zero = Plain 0x45

abbrev pub add : Instr
add = Plain 0x6A

abbrev pub subtract : Instr
subtract = Plain 0x6B

-- the imported globals: the address of the member's region, the address of the next member's value, and the slot of its function
abbrev pub base : Instr
base = Index 0x23 0

abbrev pub next_value : Instr
next_value = Index 0x23 1

abbrev pub next_slot : Instr
next_slot = Index 0x23 2

-- ---- functions

-- the value of the member
abbrev pub value_code : List Instr
value_code = base ∷ load 0 ∷ []

-- that value, and what the function of the next member gives for one less
abbrev pub sum_code : List Instr
sum_code = base ∷ load 0 ∷ parameter ∷ number 1 ∷ subtract ∷ next_slot ∷ CallIndirect 1 0 ∷ add ∷ []

-- The sum of the values of as many members as the parameter says after this one, and its own. The functions of other members are called
-- through the table.
abbrev pub function_code : List Instr
function_code = parameter ∷ is_zero ∷ If (Value I32) (record { list = value_code }) (Some (record { list = sum_code })) ∷ []

-- the address of the next member's value is written behind the member's own
abbrev pub relocation_code : List Instr
relocation_code = base ∷ next_value ∷ store 4 ∷ []

-- 1 is added to the value at that address
abbrev pub constructor_code : List Instr
constructor_code = base ∷ load 4 ∷ base ∷ load 4 ∷ load 0 ∷ number 1 ∷ add ∷ store 0 ∷ []

-- a number is written at an address
abbrev pub write_code : ℕ → ℕ → List Instr
write_code address c = number address ∷ number c ∷ store 0 ∷ []

-- the sum is written at 1024, by the function of the next member for n - 1
abbrev pub total_code : ℕ → List Instr
total_code n = number 1024 ∷ number (n - 1) ∷ call 0 ∷ store 0 ∷ []

-- the four bytes at 1024 are put to descriptor 1; 1032 has their address and their number, and 1040 room for the number that was put
abbrev pub put_code : List Instr
put_code = write_code 1032 1024 ++ (write_code 1036 4 ++ number 1 ∷ number 1032 ∷ number 1 ∷ number 1040 ∷ call 1 ∷ drop_value ∷ [])

-- the functions that a member imports are numbered first: two of the main module, and none of others
abbrev pub own : ℕ → ℕ → ℕ
own k i = if is_main k then i + 2 else i

-- the entry of the main module calls its constructor first
abbrev pub start_code : ℕ → List Instr
start_code n = call 4 ∷ total_code n ++ put_code

-- a body without further locals
abbrev pub code_of : List Instr → Code
code_of is = record { locals = []; body = record { list = is } }

-- the function, the relocations, the constructor, and the entry, by the numbers of their types
abbrev pub funcs : ℕ → List ℕ
funcs k = 1 ∷ 0 ∷ 0 ∷ main_alone k (0 ∷ [])

abbrev pub bodies : ℕ → ℕ → List Code
bodies n k = code_of function_code ∷ code_of relocation_code ∷ code_of constructor_code ∷ main_alone k (code_of (start_code n) ∷ [])

-- ---- globals, exports and data

-- the member's own global, behind the imported ones, is the place of its value in its region
abbrev pub value_global : GlobalDef
value_global = record { ty = number_type false; init = record { list = number 0 ∷ [] } }

abbrev pub export_of : List ℕ → ExportDesc → Export
export_of name desc = record { name = name; desc = desc }

abbrev pub exports : ℕ → List Export
exports k =
    export_of (function_name k) (exported.Func (own k 0)) ∷ export_of (value_name k) (exported.Global 3)
    ∷ export_of (codes "__wasm_apply_data_relocs") (exported.Func (own k 1)) ∷ export_of (codes "__wasm_call_ctors") (exported.Func (own k 2))
    ∷ main_alone k (export_of (codes "_start") (exported.Func (own k 3)) ∷ [])

-- the member's number, and room for an address
abbrev pub region : ℕ → Data
region k = record {
  mode = data_mode.Active 0 (record { list = base ∷ [] });
  bytes = to_le_bytes w32 k ++ 0 ∷ 0 ∷ 0 ∷ 0 ∷ [];
}

-- ---- modules

-- member k of n, whose `dylink.0` section holds these bytes
abbrev pub member : ℕ → ℕ → List ℕ → Module
member n k note = record {
  types = types k;
  imports = imports n k;
  funcs = funcs k;
  tables = [];
  memories = [];
  globals = value_global ∷ [];
  exports = exports k;
  start = None;
  elems = [];
  data_count = None;
  codes = bodies n k;
  datas = region k ∷ [];
  customs = dylink_section note ∷ [];
}

-- a module that has nothing but such a section
abbrev pub further : List ℕ → Module
further note = record empty_module { customs = dylink_section note ∷ [] }
