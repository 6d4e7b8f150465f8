-- How long the parts of a module are spelled: between as many bytes as they weigh and 16 times as many.
use Rattle.std.proofs.Common.{◌≡◌, ℕ, suc, ◌+◌, ◌*◌, ◌≤◌, List, [], ◌∷◌, ◌++◌, length, refl, subst, arith, length-append}
use Rattle.wasm_form.specs.declared.types.FuncType.{FuncType}
use Rattle.wasm_form.specs.declared.types.Limits.{Limits}
use Rattle.wasm_form.specs.declared.types.TableType.{TableType}
use Rattle.wasm_form.specs.declared.instr.Expr.{Expr}
use Rattle.wasm_form.specs.declared.module.ImportDesc.{ImportDesc}
use Rattle.wasm_form.specs.declared.module.Import.{Import}
use Rattle.wasm_form.specs.declared.module.GlobalDef.{GlobalDef}
use Rattle.wasm_form.specs.declared.module.ExportDesc.{ExportDesc}
use Rattle.wasm_form.specs.declared.module.Export.{Export}
use Rattle.wasm_form.specs.declared.module.ElemMode.{ElemMode}
use Rattle.wasm_form.specs.declared.module.ElemItems.{ElemItems}
use Rattle.wasm_form.specs.declared.module.Elem.{Elem}
use Rattle.wasm_form.specs.declared.module.Group.{Group}
use Rattle.wasm_form.specs.declared.module.Code.{Code}
use Rattle.wasm_form.specs.declared.module.DataMode.{DataMode}
use Rattle.wasm_form.specs.declared.module.Data.{Data}
use Rattle.wasm_form.specs.declared.module.Custom.{Custom}
use Rattle.wasm_form.specs.declared.module.Module.{Module}
use Rattle.spec_reading.specs.spec_binary.Number.{SpellsUnsigned}
use Rattle.spec_reading.specs.spec_binary.Name.{SpellsName}
use Rattle.spec_reading.specs.spec_binary.Name as names
use Rattle.spec_reading.specs.spec_binary.Sequence.{SpellsEach, SpellsVec, none, next, vec}
use Rattle.spec_reading.proofs.of_spec_binary.UnsignedSpelling.{unsigned_some, unsigned_few}
use Rattle.spec_reading.specs.spec_binary.Types.{SpellsFuncType, SpellsLimits, SpellsTableType, SpellsMutability, SpellsGlobalType}
use Rattle.spec_reading.specs.spec_binary.Types as types
use Rattle.spec_reading.specs.spec_binary.Parts.{SpellsByte, SpellsConstant, SpellsImportDesc, SpellsImport, SpellsGlobal, SpellsExportDesc, SpellsExport, SpellsElemMode, SpellsElemItems, SpellsElem, SpellsGroup, SpellsFunc, SpellsCode, SpellsDataMode, SpellsData}
use Rattle.spec_reading.specs.spec_binary.Parts as parts
use Rattle.spec_reading.specs.spec_binary.Sections.{section}
use Rattle.wasm_encode.specs.SectionSizes.{types, imports, funcs, tables, memories, globals, exports, elems, codes, datas, IsContents}
use Rattle.wasm_encode.specs.Written.{SpellsCustom, custom}
use Rattle.wasm_encode.specs.Weight.{sum_of, expr_weight, type_weight, import_weight, global_weight, export_weight, code_weight, mode_weight, items_weight, elem_weight, data_mode_weight, data_weight, custom_weight, section_weight}
use Rattle.wasm_encode.proofs.Units.{IsAbout, value_type_one, types_within, expr_about}

-- ---- lists

pub each_about : {A : Type 0} (Spells : A → List ℕ → Type 0) (weight : A → ℕ) → ((x : A) (w : List ℕ) → Spells x w → IsAbout (weight x) w) → (xs : List A) (w : List ℕ)
    → SpellsEach Spells xs w → IsAbout (sum_of weight xs) w
each_about Spells weight about [] _ none = record { least = omega arith; most = omega arith }
each_about Spells weight about (x ∷ xs) _ (next {w = w} {v = v} one rest) =
    let here = about x w one in
    let later = each_about Spells weight about xs v rest in
    let least = here.least in
    let most = here.most in
    let least_later = later.least in
    let most_later = later.most in
    let sum = length-append w v in
    record { least = omega arith; most = omega arith }

-- behind a number of them
vec_about : {A : Type 0} (Spells : A → List ℕ → Type 0) (weight : A → ℕ) → ((x : A) (w : List ℕ) → Spells x w → IsAbout (weight x) w) → {xs : List A} {w : List ℕ}
    → SpellsVec Spells xs w → IsAbout (suc (sum_of weight xs)) w
vec_about Spells weight about (vec {xs} {count} {w} number each) =
    let all = each_about Spells weight about xs w each in
    let least = all.least in
    let most = all.most in
    let long = unsigned_some number in
    let short = unsigned_few number in
    let sum = length-append count w in
    record { least = omega arith; most = omega arith }

ones : {A : Type 0} (xs : List A) → sum_of (λ x. 1) xs ≡ length xs
ones [] = refl
ones (x ∷ xs) = (let later = ones xs in omega arith)

-- of items that weigh one each
vec_of_ones : {A : Type 0} (Spells : A → List ℕ → Type 0) → ((x : A) (w : List ℕ) → Spells x w → IsAbout 1 w) → {xs : List A} {w : List ℕ} → SpellsVec Spells xs w → IsAbout (suc (length xs)) w
vec_of_ones Spells about {xs} {w} s = subst (λ k. IsAbout (suc k) w) (ones xs) (vec_about Spells (λ x. 1) about s)

-- ---- types

type_about : (ty : FuncType) (w : List ℕ) → SpellsFuncType ty w → IsAbout (type_weight ty) w
type_about ty _ (types.function {w = w} {v = v} params results) =
    let one = types_within params in
    let other = types_within results in
    let least = one.0 in
    let most = one.1 in
    let least_other = other.0 in
    let most_other = other.1 in
    let sum = length-append w v in
    record { least = omega arith; most = omega arith }

limits_short : {limits : Limits} {w : List ℕ} → SpellsLimits limits w → (1 ≤ length w) × (length w ≤ 11)
limits_short (types.open_ended e s) = (let short = unsigned_few s in (omega arith, omega arith))
limits_short (types.bounded {w = w} {v = v} e s t) =
    let short = unsigned_few s in
    let later = unsigned_few t in
    let sum = length-append w v in
    (omega arith, omega arith)

limits_about : (limits : Limits) (w : List ℕ) → SpellsLimits limits w → IsAbout 1 w
limits_about limits w s = (let short = limits_short s in let least = short.0 in let most = short.1 in record { least = omega arith; most = omega arith })

table_about : (ty : TableType) (w : List ℕ) → SpellsTableType ty w → IsAbout 1 w
table_about ty _ (types.table {w = w} {v = v} ref limits) =
    let one = value_type_one (types.reference ref) in
    let short = limits_short limits in
    let least = short.0 in
    let most = short.1 in
    let sum = length-append w v in
    record { least = omega arith; most = omega arith }

mutability_one : {may : _} {w : List ℕ} → SpellsMutability may w → length w ≡ 1
mutability_one types.constant = refl
mutability_one types.variable = refl

global_type_two : {ty : _} {w : List ℕ} → SpellsGlobalType ty w → length w ≡ 2
global_type_two (types.global {w = w} {v = v} value mutability) =
    (let one = value_type_one value in let two = mutability_one mutability in omega (arith, length-append w v))

-- ---- imports and exports

record IsNamed (text w : List ℕ) : Type 0 where
  least : suc (length text) ≤ length w
  most : length w ≤ 5 + length text

name_about : {text w : List ℕ} → SpellsName text w → IsNamed text w
name_about (names.name {text} {count} number utf8) =
    let long = unsigned_some number in
    let short = unsigned_few number in
    let sum = length-append count text in
    record { least = omega arith; most = omega arith }

pub name_short : {text w : List ℕ} → SpellsName text w → length w ≤ 5 + length text
name_short s = (name_about s).most

import_desc_short : (d : ImportDesc) (w : List ℕ) → SpellsImportDesc d w → length w ≤ 17
import_desc_short _ _ (parts.function s) = (let short = unsigned_few s in omega arith)
import_desc_short _ _ (parts.table {ty} {w} s) = (let short = (table_about ty w s).most in omega arith)
import_desc_short _ _ (parts.memory {limits} {w} s) = (let short = (limits_about limits w s).most in omega arith)
import_desc_short _ _ (parts.global s) = (let short = global_type_two s in omega arith)

import_about : (i : Import) (w : List ℕ) → SpellsImport i w → IsAbout (import_weight i) w
import_about i _ (parts.import {w = w} {v = v} {u = u} from field desc) =
    let one = name_about from in
    let two = name_about field in
    let short = import_desc_short i.desc u desc in
    let least = one.least in
    let most = one.most in
    let least_field = two.least in
    let most_field = two.most in
    let sum = length-append w (v ++ u) in
    let both = length-append v u in
    record { least = omega arith; most = omega arith }

export_desc_short : (d : ExportDesc) (w : List ℕ) → SpellsExportDesc d w → (2 ≤ length w) × (length w ≤ 6)
export_desc_short _ _ (parts.function s) = (let some = unsigned_some s in let short = unsigned_few s in (omega arith, omega arith))
export_desc_short _ _ (parts.table s) = (let some = unsigned_some s in let short = unsigned_few s in (omega arith, omega arith))
export_desc_short _ _ (parts.memory s) = (let some = unsigned_some s in let short = unsigned_few s in (omega arith, omega arith))
export_desc_short _ _ (parts.global s) = (let some = unsigned_some s in let short = unsigned_few s in (omega arith, omega arith))

export_about : (e : Export) (w : List ℕ) → SpellsExport e w → IsAbout (export_weight e) w
export_about e _ (parts.export {w = w} {v = v} named desc) =
    let one = name_about named in
    let there = export_desc_short e.desc v desc in
    let some = there.0 in
    let short = there.1 in
    let least = one.least in
    let most = one.most in
    let sum = length-append w v in
    record { least = omega arith; most = omega arith }

-- ---- code

group_about : (g : Group) (w : List ℕ) → SpellsGroup g w → IsAbout 1 w
group_about g _ (parts.group {w = w} {v = v} number ty) =
    let long = unsigned_some number in
    let short = unsigned_few number in
    let one = value_type_one ty in
    let sum = length-append w v in
    record { least = omega arith; most = omega arith }

pub func_about : {c : Code} {w : List ℕ} → SpellsFunc c w → IsAbout (suc (length c.locals) + expr_weight c.body) w
func_about (parts.func {c} {w} {v} locals body) =
    let groups = vec_of_ones SpellsGroup group_about locals in
    let inside = expr_about body in
    let least = groups.least in
    let most = groups.most in
    let least_body = inside.least in
    let most_body = inside.most in
    let sum = length-append w v in
    record { least = omega arith; most = omega arith }

code_about : (c : Code) (w : List ℕ) → SpellsCode c w → IsAbout (code_weight c) w
code_about c _ (parts.code {size = size} {w = w} number body) =
    let inside = func_about body in
    let long = unsigned_some number in
    let short = unsigned_few number in
    let least = inside.least in
    let most = inside.most in
    let sum = length-append size w in
    record { least = omega arith; most = omega arith }

-- ---- globals and segments

constant_about : (e : Expr) (w : List ℕ) → SpellsConstant e w → IsAbout (expr_weight e) w
constant_about e _ (parts.constant flat s) = expr_about s

global_about : (g : GlobalDef) (w : List ℕ) → SpellsGlobal g w → IsAbout (global_weight g) w
global_about g _ (parts.global {w = w} {v = v} ty init) =
    let two = global_type_two ty in
    let inside = constant_about g.init v init in
    let least = inside.least in
    let most = inside.most in
    let sum = length-append w v in
    record { least = omega arith; most = omega arith }

-- a number may stand before it
record IsNear (units : ℕ) (w : List ℕ) : Type 0 where
  least : units ≤ length w
  most : length w ≤ 5 + 16 * units

mode_near : {flags : ℕ} {mode : ElemMode} {w : List ℕ} → SpellsElemMode flags mode w → IsNear (mode_weight mode) w
mode_near (parts.first_table {offset} {w} s) = (let inside = constant_about offset w s in let least = inside.least in let most = inside.most in record { least = omega arith; most = omega arith })
mode_near parts.passive = record { least = omega arith; most = omega arith }
mode_near (parts.named_table {table} {offset} {w} {v} number s) =
    let inside = constant_about offset v s in
    let least = inside.least in
    let most = inside.most in
    let short = unsigned_few number in
    let sum = length-append w v in
    record { least = omega arith; most = omega arith }
mode_near parts.declarative = record { least = omega arith; most = omega arith }

number_about : (n : ℕ) (w : List ℕ) → SpellsUnsigned 32 n w → IsAbout 1 w
number_about n w s = (let long = unsigned_some s in let short = unsigned_few s in record { least = omega arith; most = omega arith })

numbers_about : {ns w : List ℕ} → SpellsVec (SpellsUnsigned 32) ns w → IsAbout (suc (length ns)) w
numbers_about s = vec_of_ones (SpellsUnsigned 32) number_about s

items_near : {flags : ℕ} {items : ElemItems} {w : List ℕ} → SpellsElemItems flags items w → IsNear (items_weight items) w
items_near (parts.functions s) = (let all = numbers_about s in let least = all.least in let most = all.most in record { least = omega arith; most = omega arith })
items_near (parts.kind_and_functions low high s) = (let all = numbers_about s in let least = all.least in let most = all.most in record { least = omega arith; most = omega arith })
items_near (parts.expressions s) = (let all = vec_about SpellsConstant expr_weight constant_about s in let least = all.least in let most = all.most in record { least = omega arith; most = omega arith })
items_near (parts.type_and_expressions {w = w} {v = v} low high ty s) =
    let all = vec_about SpellsConstant expr_weight constant_about s in
    let least = all.least in
    let most = all.most in
    let one = value_type_one (types.reference ty) in
    let sum = length-append w v in
    record { least = omega arith; most = omega arith }

elem_about : (e : Elem) (w : List ℕ) → SpellsElem e w → IsAbout (elem_weight e) w
elem_about e _ (parts.segment {w = w} {v = v} {u = u} flags mode items) =
    let long = unsigned_some flags in
    let short = unsigned_few flags in
    let one = mode_near mode in
    let other = items_near items in
    let least = one.least in
    let most = one.most in
    let least_items = other.least in
    let most_items = other.most in
    let sum = length-append w (v ++ u) in
    let both = length-append v u in
    record { least = omega arith; most = omega arith }

data_mode_near : {flags : ℕ} {mode : DataMode} {w : List ℕ} → SpellsDataMode flags mode w → IsNear (data_mode_weight mode) w
data_mode_near (parts.first_memory {offset} {w} s) = (let inside = constant_about offset w s in let least = inside.least in let most = inside.most in record { least = omega arith; most = omega arith })
data_mode_near parts.passive = record { least = omega arith; most = omega arith }
data_mode_near (parts.named_memory {memory} {offset} {w} {v} number s) =
    let inside = constant_about offset v s in
    let least = inside.least in
    let most = inside.most in
    let short = unsigned_few number in
    let sum = length-append w v in
    record { least = omega arith; most = omega arith }

byte_about : (b : ℕ) (w : List ℕ) → SpellsByte b w → IsAbout 1 w
byte_about b _ parts.byte = record { least = omega arith; most = omega arith }

data_about : (d : Data) (w : List ℕ) → SpellsData d w → IsAbout (data_weight d) w
data_about d _ (parts.segment {w = w} {v = v} {u = u} flags mode bytes) =
    let long = unsigned_some flags in
    let short = unsigned_few flags in
    let one = data_mode_near mode in
    let all = vec_of_ones SpellsByte byte_about bytes in
    let least = one.least in
    let most = one.most in
    let least_bytes = all.least in
    let most_bytes = all.most in
    let sum = length-append w (v ++ u) in
    let both = length-append v u in
    record { least = omega arith; most = omega arith }

-- ---- sections

pub contents_about : {m : Module} {id : ℕ} {w : List ℕ} → IsContents m id w → IsAbout (suc (section_weight m id)) w
contents_about (types s) = vec_about SpellsFuncType type_weight type_about s
contents_about (imports s) = vec_about SpellsImport import_weight import_about s
contents_about (funcs s) = numbers_about s
contents_about (tables s) = vec_of_ones SpellsTableType table_about s
contents_about (memories s) = vec_of_ones SpellsLimits limits_about s
contents_about (globals s) = vec_about SpellsGlobal global_weight global_about s
contents_about (exports s) = vec_about SpellsExport export_weight export_about s
contents_about (elems s) = vec_about SpellsElem elem_weight elem_about s
contents_about (codes s) = vec_about SpellsCode code_weight code_about s
contents_about (datas s) = vec_about SpellsData data_weight data_about s

pub custom_about : (c : Custom) (w : List ℕ) → SpellsCustom c w → IsAbout (custom_weight c) w
custom_about c _ (custom {name} named (section {size} {contents} number)) =
    let short = name_about named in
    let least = short.least in
    let most = short.most in
    let framed = unsigned_few number in
    let sum = length-append size contents in
    let both = length-append name c.bytes in
    record { least = omega arith; most = omega arith }
