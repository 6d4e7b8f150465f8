-- Items that are spelled one after the other have a byte each at least, so there are no more of them than bytes.
use Rattle.std.proofs.Common.{ℕ, ◌≤◌, List, [], ◌∷◌, ◌++◌, length, arith, length-append}
use Rattle.spec_binary.specs.wasm_form.declared.types.ValType.{ValType}
use Rattle.spec_binary.specs.wasm_form.declared.types.FuncType.{FuncType}
use Rattle.spec_binary.specs.wasm_form.declared.types.TableType.{TableType}
use Rattle.spec_binary.specs.wasm_form.declared.types.GlobalType.{GlobalType}
use Rattle.spec_binary.specs.wasm_form.declared.module.Import.{Import}
use Rattle.spec_binary.specs.wasm_form.declared.module.GlobalDef.{GlobalDef}
use Rattle.spec_binary.specs.wasm_form.declared.module.Export.{Export}
use Rattle.spec_binary.specs.wasm_form.declared.module.Elem.{Elem}
use Rattle.spec_binary.specs.wasm_form.declared.module.Code.{Code}
use Rattle.spec_binary.specs.wasm_form.declared.module.Data.{Data}
use Rattle.spec_binary.specs.Name as names
use Rattle.spec_binary.specs.Sequence.{SpellsEach, none, next}
use Rattle.spec_binary.specs.Types as types
use Rattle.spec_binary.specs.Types.{SpellsFuncType, SpellsValType, SpellsRefType, SpellsTableType, SpellsGlobalType}
use Rattle.spec_binary.specs.Parts.{SpellsImport, SpellsGlobal, SpellsExport, SpellsElem, SpellsCode, SpellsData}
use Rattle.spec_binary.specs.Parts as parts
use Rattle.spec_binary.proofs.UnsignedSpelling.{unsigned_some}

pub items_within : {A : Type 0} (Spells : A → List ℕ → Type 0) → ((x : A) (w : List ℕ) → Spells x w → 1 ≤ length w) → (xs : List A) (w : List ℕ)
    → SpellsEach Spells xs w → length xs ≤ length w
items_within Spells long [] _ none = omega arith
items_within Spells long (x ∷ xs) _ (next {w = w} {v = v} one rest) =
    let here = long x w one in
    let later = items_within Spells long xs v rest in
    omega (arith, length-append w v)

-- ---- an item of each part of a module

name_long : {text w : List ℕ} → names.SpellsName text w → 1 ≤ length w
name_long (names.name {text} {count} number utf8) = (let long = unsigned_some number in omega (arith, length-append count text))

ref_type_long : {t : ValType} {w : List ℕ} → SpellsRefType t w → 1 ≤ length w
ref_type_long types.func_ref = omega arith
ref_type_long types.extern_ref = omega arith

value_type_long : {t : ValType} {w : List ℕ} → SpellsValType t w → 1 ≤ length w
value_type_long types.i32 = omega arith
value_type_long types.i64 = omega arith
value_type_long types.f32 = omega arith
value_type_long types.f64 = omega arith
value_type_long (types.reference ref) = ref_type_long ref

pub type_long : (x : FuncType) (w : List ℕ) → SpellsFuncType x w → 1 ≤ length w
type_long x _ (types.function {w = w} {v = v} params results) = omega arith

pub import_long : (x : Import) (w : List ℕ) → SpellsImport x w → 1 ≤ length w
import_long x _ (parts.import {w = w} {v = v} {u = u} from field desc) = (let long = name_long from in omega (arith, length-append w (v ++ u)))

pub table_long : (x : TableType) (w : List ℕ) → SpellsTableType x w → 1 ≤ length w
table_long x _ (types.table {w = w} {v = v} ref limits) = (let long = ref_type_long ref in omega (arith, length-append w v))

global_type_long : {ty : GlobalType} {w : List ℕ} → SpellsGlobalType ty w → 1 ≤ length w
global_type_long (types.global {w = w} {v = v} value mutability) = (let long = value_type_long value in omega (arith, length-append w v))

pub global_long : (x : GlobalDef) (w : List ℕ) → SpellsGlobal x w → 1 ≤ length w
global_long x _ (parts.global {w = w} {v = v} ty init) = (let long = global_type_long ty in omega (arith, length-append w v))

pub export_long : (x : Export) (w : List ℕ) → SpellsExport x w → 1 ≤ length w
export_long x _ (parts.export {w = w} {v = v} named desc) = (let long = name_long named in omega (arith, length-append w v))

pub elem_long : (x : Elem) (w : List ℕ) → SpellsElem x w → 1 ≤ length w
elem_long x _ (parts.segment {w = w} {v = v} {u = u} flags mode items) = (let long = unsigned_some flags in omega (arith, length-append w (v ++ u)))

pub code_long : (x : Code) (w : List ℕ) → SpellsCode x w → 1 ≤ length w
code_long x _ (parts.code {size = size} {w = w} number body) = (let long = unsigned_some number in omega (arith, length-append size w))

pub data_long : (x : Data) (w : List ℕ) → SpellsData x w → 1 ≤ length w
data_long x _ (parts.segment {w = w} {v = v} {u = u} flags mode bytes) = (let long = unsigned_some flags in omega (arith, length-append w (v ++ u)))
