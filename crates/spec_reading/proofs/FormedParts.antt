-- What the sections hold is well formed where it is spelled.
use Rattle.std.proofs.Common.{ℕ, List, refl}
use Rattle.spec_binary.specs.wasm_form.declared.types.FuncType.{FuncType}
use Rattle.spec_binary.specs.wasm_form.declared.types.TableType.{TableType}
use Rattle.spec_binary.specs.wasm_form.declared.instr.Expr.{Expr}
use Rattle.spec_binary.specs.wasm_form.declared.module.ImportDesc.{ImportDesc}
use Rattle.spec_binary.specs.wasm_form.declared.module.Import.{Import}
use Rattle.spec_binary.specs.wasm_form.declared.module.GlobalDef.{GlobalDef}
use Rattle.spec_binary.specs.wasm_form.declared.module.Export.{Export}
use Rattle.spec_binary.specs.wasm_form.declared.module.ElemMode.{ElemMode}
use Rattle.spec_binary.specs.wasm_form.declared.module.ElemItems.{ElemItems}
use Rattle.spec_binary.specs.wasm_form.declared.module.Elem.{Elem}
use Rattle.spec_binary.specs.wasm_form.declared.module.Code.{Code}
use Rattle.spec_binary.specs.wasm_form.declared.module.DataMode.{DataMode}
use Rattle.spec_binary.specs.wasm_form.declared.module.Data.{Data}
use Rattle.spec_binary.specs.Types.{SpellsFuncType, function as function_type, SpellsTableType, table as table_type}
use Rattle.spec_binary.specs.Parts.{SpellsConstant, constant, SpellsImportDesc, function as imported_function, table as imported_table, memory as imported_memory, global as imported_global, SpellsImport, «import», SpellsGlobal, global as defined_global, SpellsExport, export, SpellsElemMode, first_table, passive as passive_element, named_table, declarative, SpellsElemItems, functions, kind_and_functions, expressions, type_and_expressions, SpellsElem, segment as element_segment, SpellsFunc, func, SpellsCode, code, SpellsDataMode, first_memory, passive as passive_data, named_memory, SpellsData, segment as data_segment}
use Rattle.spec_binary.specs.WellFormed.{IsShort, IsFormedType, IsFormedTable, IsFormedDesc, IsFormedImport, IsFormedBody, IsFormedConstant, IsFormedGlobal, IsFormedExport, IsFormedElemMode, IsFormedItems, IsFormedElem, IsFormedDataMode, IsFormedData}
use Rattle.spec_reading.proofs.FormedInstructions.{name_short, vec_short, vec_all, ref_type_formed, expr_formed}

pub type_formed : {ty : FuncType} {w : List ℕ} → SpellsFuncType ty w → IsFormedType ty
type_formed (function_type s p) = (vec_short s, vec_short p)

pub table_formed : {ty : TableType} {w : List ℕ} → SpellsTableType ty w → IsFormedTable ty
table_formed (table_type s p) = ref_type_formed s

desc_formed : {d : ImportDesc} {w : List ℕ} → SpellsImportDesc d w → IsFormedDesc d
desc_formed (imported_function s) = tt
desc_formed (imported_table s) = table_formed s
desc_formed (imported_memory s) = tt
desc_formed (imported_global s) = tt

pub import_formed : {i : Import} {w : List ℕ} → SpellsImport i w → IsFormedImport i
import_formed («import» s p q) = record { «from» = name_short s; field = name_short p; desc = desc_formed q }

pub constant_formed : {e : Expr} {w : List ℕ} → SpellsConstant e w → IsFormedConstant e
constant_formed (constant flat s) = record { formed = expr_formed s; flat = flat }

pub global_formed : {g : GlobalDef} {w : List ℕ} → SpellsGlobal g w → IsFormedGlobal g
global_formed (defined_global s p) = constant_formed p

pub export_formed : {e : Export} {w : List ℕ} → SpellsExport e w → IsFormedExport e
export_formed (export s p) = name_short s

elem_mode_formed : {flags : ℕ} {m : ElemMode} {w : List ℕ} → SpellsElemMode flags m w → IsFormedElemMode m
elem_mode_formed (first_table s) = constant_formed s
elem_mode_formed passive_element = tt
elem_mode_formed (named_table s p) = constant_formed p
elem_mode_formed declarative = tt

items_formed : {flags : ℕ} {is : ElemItems} {w : List ℕ} → SpellsElemItems flags is w → IsFormedItems is
items_formed (functions s) = vec_short s
items_formed (kind_and_functions l h s) = vec_short s
items_formed (expressions s) = (refl, (vec_short s, vec_all IsFormedConstant (λ e w s. constant_formed s) s))
items_formed (type_and_expressions l h s p) = (ref_type_formed s, (vec_short p, vec_all IsFormedConstant (λ e w s. constant_formed s) p))

pub elem_formed : {s : Elem} {w : List ℕ} → SpellsElem s w → IsFormedElem s
elem_formed (element_segment s p q) = record { mode = elem_mode_formed p; items = items_formed q }

-- a code as far as its spelling goes, whose body may pass a limit
pub record IsFormedWithoutLimits (c : Code) : Type 0 where
  pub locals : IsShort c.locals
  pub body : IsFormedBody c.body

func_formed : {c : Code} {w : List ℕ} → SpellsFunc c w → IsFormedWithoutLimits c
func_formed (func s p) = record { locals = vec_short s; body = expr_formed p }

pub code_formed : {c : Code} {w : List ℕ} → SpellsCode c w → IsFormedWithoutLimits c
code_formed (code s p) = func_formed p

data_mode_formed : {flags : ℕ} {m : DataMode} {w : List ℕ} → SpellsDataMode flags m w → IsFormedDataMode m
data_mode_formed (first_memory s) = constant_formed s
data_mode_formed passive_data = tt
data_mode_formed (named_memory s p) = constant_formed p

pub data_formed : {s : Data} {w : List ℕ} → SpellsData s w → IsFormedData s
data_formed (data_segment s p q) = record { mode = data_mode_formed p; bytes = vec_short q }
