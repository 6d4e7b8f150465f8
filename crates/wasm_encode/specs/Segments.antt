-- What is written of a segment: its flags are the least that say what it does (WebAssembly Core 2.0, sections 5.5.12 and 5.5.14).
use Rattle.std.specs.Prelude.{◌≡◌, ℕ, ◌+◌, Bool, true, false, ◌&&◌, not, nat_eq, List, [], if◌then◌else◌}
use Rattle.wasm_form.specs.declared.types.ValType.{ValType}
use Rattle.wasm_form.specs.declared.types.ValType.TheVariants.{FuncRef}
use Rattle.wasm_form.specs.declared.instr.Expr.{Expr}
use Rattle.wasm_form.specs.declared.module.ElemMode.{ElemMode}
use Rattle.wasm_form.specs.declared.module.ElemMode.TheVariants as element
use Rattle.wasm_form.specs.declared.module.ElemItems.{ElemItems}
use Rattle.wasm_form.specs.declared.module.ElemItems.TheVariants.{Funcs, Exprs}
use Rattle.wasm_form.specs.declared.module.DataMode.{DataMode}
use Rattle.wasm_form.specs.declared.module.DataMode.TheVariants as data_mode
use Rattle.spec_reading.specs.spec_binary.Number.{SpellsUnsigned}
use Rattle.spec_reading.specs.spec_binary.Sequence.{SpellsVec}
use Rattle.spec_reading.specs.spec_binary.Types.{SpellsRefType}
use Rattle.spec_reading.specs.spec_binary.Parts.{SpellsConstant}
use Rattle.spec_reading.specs.spec_binary.Joined.{IsByte, Joined}

-- an offset, and before it the number of the table or memory where that is named
abbrev pub IsPlace : Bool → ℕ → Expr → List ℕ → Type 0
IsPlace true n offset w = Joined (SpellsUnsigned 32 n) (SpellsConstant offset) w
IsPlace false n offset w = SpellsConstant offset w

abbrev pub is_func_ref : ValType → Bool
is_func_ref FuncRef = true
is_func_ref _ = false

-- functions, or expressions of type funcref
abbrev pub plain_items : ElemItems → Bool
plain_items (Funcs ns) = true
plain_items (Exprs t es) = is_func_ref t

-- the table and the kind or type of the items are written, except for plain items of table 0
abbrev pub names_table : ElemMode → ElemItems → Bool
names_table (element.Active table offset) items = not (nat_eq table 0 && plain_items items)
names_table element.Passive items = true
names_table element.Declarative items = true

abbrev pub mode_flags : Bool → ElemMode → ℕ
mode_flags named (element.Active table offset) = if named then 2 else 0
mode_flags named element.Passive = 1
mode_flags named element.Declarative = 3

abbrev pub elem_flags : Bool → ElemMode → ElemItems → ℕ
elem_flags named mode (Funcs ns) = mode_flags named mode
elem_flags named mode (Exprs t es) = mode_flags named mode + 4

abbrev pub IsElemMode : Bool → ElemMode → List ℕ → Type 0
IsElemMode named (element.Active table offset) w = IsPlace named table offset w
IsElemMode named element.Passive w = w ≡ []
IsElemMode named element.Declarative w = w ≡ []

abbrev pub IsItems : Bool → ElemItems → List ℕ → Type 0
IsItems true (Funcs ns) w = Joined (IsByte 0x00) (SpellsVec (SpellsUnsigned 32) ns) w
IsItems false (Funcs ns) w = SpellsVec (SpellsUnsigned 32) ns w
IsItems true (Exprs t es) w = Joined (SpellsRefType t) (SpellsVec SpellsConstant es) w
IsItems false (Exprs t es) w = SpellsVec SpellsConstant es w

-- the memory is written where it isn't memory 0
abbrev pub names_memory : DataMode → Bool
names_memory (data_mode.Active memory offset) = not (nat_eq memory 0)
names_memory data_mode.Passive = false

abbrev pub data_flags : Bool → DataMode → ℕ
data_flags named (data_mode.Active memory offset) = if named then 2 else 0
data_flags named data_mode.Passive = 1

abbrev pub IsDataMode : Bool → DataMode → List ℕ → Type 0
IsDataMode named (data_mode.Active memory offset) w = IsPlace named memory offset w
IsDataMode named data_mode.Passive w = w ≡ []
