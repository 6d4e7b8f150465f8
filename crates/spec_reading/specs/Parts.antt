-- Reading what the sections hold (WebAssembly Core 2.0, section 5.5).
use Rattle.std.specs.Prelude.{ℕ, ◌%◌, List, [], ◌∷◌, Result, Ok, Err, nat_eq, nat_lt, if◌then◌else◌}
use Rattle.spec_binary.specs.wasm_form.declared.types.ValType.{ValType}
use Rattle.spec_binary.specs.wasm_form.declared.types.ValType.TheVariants.{FuncRef}
use Rattle.spec_binary.specs.wasm_form.declared.instr.Expr.{Expr}
use Rattle.spec_binary.specs.wasm_form.declared.module.ImportDesc.{ImportDesc}
use Rattle.spec_binary.specs.wasm_form.declared.module.ImportDesc.TheVariants as imported
use Rattle.spec_binary.specs.wasm_form.declared.module.Import.{Import}
use Rattle.spec_binary.specs.wasm_form.declared.module.GlobalDef.{GlobalDef}
use Rattle.spec_binary.specs.wasm_form.declared.module.ExportDesc.{ExportDesc}
use Rattle.spec_binary.specs.wasm_form.declared.module.ExportDesc.TheVariants as exported
use Rattle.spec_binary.specs.wasm_form.declared.module.Export.{Export}
use Rattle.spec_binary.specs.wasm_form.declared.module.ElemMode.{ElemMode}
use Rattle.spec_binary.specs.wasm_form.declared.module.ElemMode.TheVariants as element
use Rattle.spec_binary.specs.wasm_form.declared.module.ElemItems.{ElemItems}
use Rattle.spec_binary.specs.wasm_form.declared.module.ElemItems.TheVariants.{Funcs, Exprs}
use Rattle.spec_binary.specs.wasm_form.declared.module.Elem.{Elem}
use Rattle.spec_binary.specs.wasm_form.declared.module.DataMode.{DataMode}
use Rattle.spec_binary.specs.wasm_form.declared.module.DataMode.TheVariants as data_mode
use Rattle.spec_binary.specs.wasm_form.declared.module.Data.{Data}
use Rattle.spec_reading.specs.Steps.{Break, Broken, TooDeep, TooManyLocals, ◌>>=◌, Read}
use Rattle.spec_reading.specs.Values.{number_at, byte_at, cut_at, name_at, vec_at}
use Rattle.spec_reading.specs.Types.{ref_type_at, limits_at, table_type_at, global_type_at}
use Rattle.spec_reading.specs.Instructions.{expr_at}

-- outside a body no block is read
abbrev pub without_blocks : {A : Type 0} → Result A Break → Result A Break
without_blocks (Ok x) = Ok x
without_blocks (Err Broken) = Err Broken
without_blocks (Err TooDeep) = Err Broken
without_blocks (Err TooManyLocals) = Err TooManyLocals

unfoldable pub constant_at : List ℕ → Read Expr
constant_at text = without_blocks (expr_at 0 text)

abbrev pub described_import_at : ℕ → List ℕ → Read ImportDesc
described_import_at kind text =
    if nat_eq kind 0x00 then (number_at 32 text >>= λ x. Ok (imported.Func x.0, x.1))
    else if nat_eq kind 0x01 then (table_type_at text >>= λ x. Ok (imported.Table x.0, x.1))
    else if nat_eq kind 0x02 then (limits_at text >>= λ x. Ok (imported.Space x.0, x.1))
    else if nat_eq kind 0x03 then (global_type_at text >>= λ x. Ok (imported.Global x.0, x.1))
    else Err Broken

unfoldable pub import_desc_at : List ℕ → Read ImportDesc
import_desc_at [] = Err Broken
import_desc_at (kind ∷ text) = described_import_at kind text

unfoldable pub import_at : List ℕ → Read Import
import_at text = do
  from ← name_at text
  field ← name_at from.1
  desc ← import_desc_at field.1
  Ok (record { «module» = from.0; field = field.0; desc = desc.0 }, desc.1)

unfoldable pub global_at : List ℕ → Read GlobalDef
global_at text = do
  ty ← global_type_at text
  init ← constant_at ty.1
  Ok (record { ty = ty.0; init = init.0 }, init.1)

abbrev pub described_export : ℕ → ℕ → Result ExportDesc Break
described_export kind n =
    if nat_eq kind 0x00 then Ok (exported.Func n)
    else if nat_eq kind 0x01 then Ok (exported.Table n)
    else if nat_eq kind 0x02 then Ok (exported.Space n)
    else if nat_eq kind 0x03 then Ok (exported.Global n)
    else Err Broken

abbrev pub described_export_at : ℕ → List ℕ → Read ExportDesc
described_export_at kind text = do
  n ← number_at 32 text
  desc ← described_export kind n.0
  Ok (desc, n.1)

unfoldable pub export_desc_at : List ℕ → Read ExportDesc
export_desc_at [] = Err Broken
export_desc_at (kind ∷ text) = described_export_at kind text

unfoldable pub export_at : List ℕ → Read Export
export_at text = do
  name ← name_at text
  desc ← export_desc_at name.1
  Ok (record { name = name.0; desc = desc.0 }, desc.1)

-- a table or a memory, and a constant expression
abbrev pub place_at : List ℕ → Read (ℕ × Expr)
place_at text = do
  n ← number_at 32 text
  offset ← constant_at n.1
  Ok ((n.0, offset.0), offset.1)

unfoldable pub elem_mode_at : ℕ → List ℕ → Read ElemMode
elem_mode_at low text =
    if nat_eq low 0 then (constant_at text >>= λ offset. Ok (element.Active 0 offset.0, offset.1))
    else if nat_eq low 1 then Ok (element.Passive, text)
    else if nat_eq low 2 then (place_at text >>= λ place. Ok (element.Active place.0.0 place.0.1, place.1))
    else Ok (element.Declarative, text)

abbrev pub functions_at : List ℕ → Read ElemItems
functions_at text = vec_at (number_at 32) text >>= λ ns. Ok (Funcs ns.0, ns.1)

abbrev pub expressions_at : ValType → List ℕ → Read ElemItems
expressions_at t text = vec_at constant_at text >>= λ es. Ok (Exprs t es.0, es.1)

unfoldable pub elem_items_at : ℕ → List ℕ → Read ElemItems
elem_items_at flags text =
    if nat_eq flags 0 then functions_at text
    else if nat_lt flags 4 then (byte_at 0x00 text >>= λ kind. functions_at kind.1)
    else if nat_eq flags 4 then expressions_at FuncRef text
    else if nat_lt flags 8 then (ref_type_at text >>= λ t. expressions_at t.0 t.1)
    else Err Broken

unfoldable pub elem_at : List ℕ → Read Elem
elem_at text = do
  flags ← number_at 32 text
  mode ← elem_mode_at (flags.0 % 4) flags.1
  items ← elem_items_at flags.0 mode.1
  Ok (record { mode = mode.0; items = items.0 }, items.1)

unfoldable pub data_mode_at : ℕ → List ℕ → Read DataMode
data_mode_at flags text =
    if nat_eq flags 0 then (constant_at text >>= λ offset. Ok (data_mode.Active 0 offset.0, offset.1))
    else if nat_eq flags 1 then Ok (data_mode.Passive, text)
    else if nat_eq flags 2 then (place_at text >>= λ place. Ok (data_mode.Active place.0.0 place.0.1, place.1))
    else Err Broken

unfoldable pub data_at : List ℕ → Read Data
data_at text = do
  flags ← number_at 32 text
  mode ← data_mode_at flags.0 flags.1
  bytes ← cut_at mode.1
  Ok (record { mode = mode.0; bytes = bytes.0 }, bytes.1)
