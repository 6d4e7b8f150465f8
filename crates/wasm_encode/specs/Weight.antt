-- How much there is to write of a module: its items, the bytes of its texts, and the instructions of its code with their labels and types.
-- Part of the statement of laws: docs/LAWS.md, "Laws of the parts".
use Rattle.std.specs.Prelude.{ℕ, suc, ◌+◌, List, [], ◌∷◌, length, Some, None, nat_eq, if◌then◌else◌}
use Rattle.wasm_form.specs.declared.types.FuncType.{FuncType}
use Rattle.wasm_form.specs.declared.instr.Instr.{Instr, fold-Instr}
use Rattle.wasm_form.specs.declared.instr.Instr.TheOpen as Open
use Rattle.wasm_form.specs.declared.instr.Expr.{Expr}
use Rattle.wasm_form.specs.declared.module.Import.{Import}
use Rattle.wasm_form.specs.declared.module.GlobalDef.{GlobalDef}
use Rattle.wasm_form.specs.declared.module.Export.{Export}
use Rattle.wasm_form.specs.declared.module.ElemMode.{ElemMode}
use Rattle.wasm_form.specs.declared.module.ElemMode.TheVariants as elem_mode
use Rattle.wasm_form.specs.declared.module.ElemItems.{ElemItems}
use Rattle.wasm_form.specs.declared.module.ElemItems.TheVariants as elem_items
use Rattle.wasm_form.specs.declared.module.Elem.{Elem}
use Rattle.wasm_form.specs.declared.module.Code.{Code}
use Rattle.wasm_form.specs.declared.module.DataMode.{DataMode}
use Rattle.wasm_form.specs.declared.module.DataMode.TheVariants as data_mode
use Rattle.wasm_form.specs.declared.module.Data.{Data}
use Rattle.wasm_form.specs.declared.module.Custom.{Custom}
use Rattle.wasm_form.specs.declared.module.Module.{Module}

-- ---- instructions

abbrev pub all_units : List ℕ → ℕ
all_units [] = 0
all_units (n ∷ ns) = n + all_units ns

-- one of each instruction, and one of each label and each type of a list
abbrev pub units_here : Open.Instr-F ℕ ℕ → ℕ
units_here (Open.Block t inside) = suc inside
units_here (Open.Loop t inside) = suc inside
units_here (Open.If t inside None) = suc inside
units_here (Open.If t inside (Some other)) = suc (inside + other)
units_here (Open.BrTable labels last) = suc (length labels)
units_here (Open.Select ts) = suc (length ts)
units_here _ = 1

abbrev pub units_inside : Open.Expr-F ℕ ℕ → ℕ
units_inside e = all_units e.list

unfoldable pub units : Instr → ℕ
units = fold-Instr ℕ ℕ units_here units_inside

abbrev pub units_of : List Instr → ℕ
units_of [] = 0
units_of (i ∷ is) = units i + units_of is

abbrev pub expr_weight : Expr → ℕ
expr_weight e = suc (units_of e.list)

-- ---- items

abbrev pub sum_of : {A : Type 0} → (A → ℕ) → List A → ℕ
sum_of weight [] = 0
sum_of weight (x ∷ xs) = weight x + sum_of weight xs

abbrev pub type_weight : FuncType → ℕ
type_weight ty = suc (length ty.params + length ty.results)

abbrev pub import_weight : Import → ℕ
import_weight i = 2 + (length i.module + length i.field)

abbrev pub global_weight : GlobalDef → ℕ
global_weight g = 2 + expr_weight g.init

abbrev pub export_weight : Export → ℕ
export_weight e = 3 + length e.name

abbrev pub code_weight : Code → ℕ
code_weight c = suc (suc (length c.locals) + expr_weight c.body)

abbrev pub mode_weight : ElemMode → ℕ
mode_weight (elem_mode.Active t offset) = expr_weight offset
mode_weight elem_mode.Passive = 0
mode_weight elem_mode.Declarative = 0

abbrev pub items_weight : ElemItems → ℕ
items_weight (elem_items.Funcs ns) = suc (length ns)
items_weight (elem_items.Exprs t es) = suc (sum_of expr_weight es)

abbrev pub elem_weight : Elem → ℕ
elem_weight e = suc (mode_weight e.mode + items_weight e.items)

abbrev pub data_mode_weight : DataMode → ℕ
data_mode_weight (data_mode.Active memory offset) = expr_weight offset
data_mode_weight data_mode.Passive = 0

abbrev pub data_weight : Data → ℕ
data_weight d = suc (data_mode_weight d.mode + suc (length d.bytes))

abbrev pub custom_weight : Custom → ℕ
custom_weight c = suc (length c.name + length c.bytes)

-- ---- the whole

-- of the items of the section with this number, but for custom sections
abbrev pub section_weight : Module → ℕ → ℕ
section_weight m id =
    if nat_eq id 1 then sum_of type_weight m.types
    else if nat_eq id 2 then sum_of import_weight m.imports
    else if nat_eq id 3 then length m.funcs
    else if nat_eq id 4 then length m.tables
    else if nat_eq id 5 then length m.memories
    else if nat_eq id 6 then sum_of global_weight m.globals
    else if nat_eq id 7 then sum_of export_weight m.exports
    else if nat_eq id 9 then sum_of elem_weight m.elems
    else if nat_eq id 10 then sum_of code_weight m.codes
    else if nat_eq id 11 then sum_of data_weight m.datas
    else 0

abbrev pub weight : Module → ℕ
weight m =
    sum_of type_weight m.types + sum_of import_weight m.imports + length m.funcs + length m.tables + length m.memories
    + sum_of global_weight m.globals + sum_of export_weight m.exports + sum_of elem_weight m.elems + sum_of code_weight m.codes
    + sum_of data_weight m.datas + sum_of custom_weight m.customs
