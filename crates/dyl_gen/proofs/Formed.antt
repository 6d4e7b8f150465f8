-- The modules of the set are well formed.
use Rattle.std.proofs.Common.{◌≡◌, ℕ, suc, ◌<◌, ◌≤◌, List, [], ◌∷◌, ◌++◌, Bool, true, false, cond, length, refl, arith}
use Rattle.std.specs.Prelude.{codes, IsTrue, None}
use Rattle.std.specs.List.{All}
use Rattle.std.proofs.lemmas.List.Elements.{All-nil, All-cons, All-append}
use Rattle.wasm_form.specs.declared.types.ValType.TheVariants.{FuncRef}
use Rattle.wasm_form.specs.declared.instr.Instr.{Instr}
use Rattle.wasm_form.specs.declared.module.ImportDesc.{ImportDesc}
use Rattle.wasm_form.specs.declared.module.ImportDesc.TheVariants as imported
use Rattle.wasm_form.specs.declared.module.ExportDesc.TheVariants as exported
use Rattle.wasm_form.specs.declared.module.Code.{Code}
use Rattle.wasm_form.specs.declared.module.Module.{Module}
use Rattle.spec_reading.specs.spec_binary.Operands.{access_operands}
use Rattle.spec_reading.specs.spec_binary.WellFormed.{has_form, names_no_data, IsFormedType, IsFormedDesc, IsFormedImport, IsFormedTable, IsFormedConstant, IsFormedGlobal, IsFormedExport, IsFormedElem, IsFormedCode, IsFormedData, ArePlaced, none, first, IsWellFormed}
use Rattle.spec_reading.specs.spec_binary.BodyLimits.{IsWithinLimits}
use Rattle.spec_reading.specs.spec_binary.Trees.{nesting_all, every_of}
use Rattle.spec_reading.proofs.Trees.{nesting-Index, nesting-I32Const, every-Index, every-I32Const}
use Rattle.dyl_gen.specs.Generated as made
use Rattle.dyl_gen.specs.Generated.{is_main, main_alone, function_name, value_name, base, number, code_of, function_code, relocation_code, constructor_code, start_code}
use Rattle.dyl_gen.proofs.MemberNames.{function_short, value_short}
use Rattle.dyl_gen.proofs.Records.{next_below}
use Rattle.dyl_gen.proofs.Forms.{function_formed, relocation_formed, constructor_formed, start_formed, function_dataless, relocation_dataless, constructor_dataless, start_dataless, function_nested, relocation_nested, constructor_nested, start_nested}

-- ---- lists that the main module has alone

main_all : {A : Type 0} (P : A → Type 0) (k : ℕ) (xs : List A) → All P xs → All P (main_alone k xs)
main_all P k xs all = by (is_main k)
  where
    by : (b : Bool) → All P (cond b xs [])
    by true = all
    by false = All-nil P

main_few : {A : Type 0} (k : ℕ) (xs : List A) → length (main_alone k xs) ≤ length xs
main_few k xs = by (is_main k)
  where
    by : (b : Bool) → length (cond b xs []) ≤ length xs
    by true = omega arith
    by false = omega arith

one : {A : Type 0} (P : A → Type 0) (x : A) → P x → All P (x ∷ [])
one P x is = All-cons P x [] is (All-nil P)

-- ---- constants

base_formed : IsFormedConstant (record { list = base ∷ [] })
unfolding access_operands
base_formed = record { formed = simp (every-Index); flat = simp (nesting-Index) }

number_formed : (c : ℕ) → IsFormedConstant (record { list = number c ∷ [] })
number_formed c = record { formed = simp (every-I32Const); flat = simp (nesting-I32Const) }

-- ---- bodies

code_formed : (is : List Instr) → every_of has_form is ≡ true → nesting_all is ≤ 1000 → IsFormedCode (code_of is)
code_formed is formed flat = record { locals = omega arith; body = formed; limits = record { few_locals = omega arith; flat = flat } }

function_is : IsFormedCode (code_of function_code)
function_is = code_formed function_code function_formed (let flat = function_nested in omega arith)

relocation_is : IsFormedCode (code_of relocation_code)
relocation_is = code_formed relocation_code relocation_formed (let flat = relocation_nested in omega arith)

constructor_is : IsFormedCode (code_of constructor_code)
constructor_is = code_formed constructor_code constructor_formed (let flat = constructor_nested in omega arith)

start_is : (n : ℕ) → IsFormedCode (code_of (start_code n))
start_is n = code_formed (start_code n) (start_formed n) (let flat = start_nested n in omega arith)

-- what holds of each body of a member
bodies_all : (P : Code → Type 0) (n k : ℕ) → P (code_of function_code) → P (code_of relocation_code) → P (code_of constructor_code) → P (code_of (start_code n))
    → All P (made.bodies n k)
bodies_all P n k a b c d =
    let last = main_alone k (code_of (start_code n) ∷ []) in
    let third = code_of constructor_code ∷ last in
    let second = code_of relocation_code ∷ third in
    All-cons P (code_of function_code) second a (All-cons P (code_of relocation_code) third b (All-cons P (code_of constructor_code) last c
    (main_all P k (code_of (start_code n) ∷ []) (one P (code_of (start_code n)) d))))

-- the bodies keep the limits
limited : (is : List Instr) → nesting_all is ≤ 1000 → IsWithinLimits (code_of is)
limited is flat = record { few_locals = omega arith; flat = flat }

pub member_limits : (n k : ℕ) → All IsWithinLimits (made.bodies n k)
member_limits n k =
    bodies_all IsWithinLimits n k (limited function_code (let flat = function_nested in omega arith)) (limited relocation_code (let flat = relocation_nested in omega arith))
    (limited constructor_code (let flat = constructor_nested in omega arith)) (limited (start_code n) (let flat = start_nested n in omega arith))

abbrev IsDataless : Code → Type 0
IsDataless c = IsTrue (every_of names_no_data c.body.list)

-- ---- types, imports and exports

types_all : (k : ℕ) → All IsFormedType (made.types k)
types_all k =
    let last = main_alone k (made.four_numbers ∷ []) in
    All-cons IsFormedType made.no_numbers (made.one_number ∷ last) (omega arith, omega arith) (All-cons IsFormedType made.one_number last (omega arith, omega arith)
    (main_all IsFormedType k (made.four_numbers ∷ []) (one IsFormedType made.four_numbers (omega arith, omega arith))))

import_formed : (from field : List ℕ) (desc : ImportDesc) → length from ≤ 300 → length field ≤ 300 → IsFormedDesc desc → IsFormedImport (made.import_of from field desc)
import_formed from field desc a b is = record { from = omega arith; field = omega arith; desc = is }

shared_all : All IsFormedImport made.shared_imports
shared_all =
    let memory = imported.Space (record { min = 1; max = None }) in
    let table = imported.Table (record { elem = FuncRef; limits = record { min = 0; max = None } }) in
    let base_is = imported.Global (made.number_type false) in
    let third = made.import_of (codes "env") (codes "__memory_base") base_is in
    let second = made.import_of (codes "env") (codes "__indirect_function_table") table in
    All-cons IsFormedImport (made.import_of (codes "env") (codes "memory") memory) (second ∷ third ∷ [])
    (import_formed (codes "env") (codes "memory") memory (omega arith) (omega arith) tt)
    (All-cons IsFormedImport second (third ∷ []) (import_formed (codes "env") (codes "__indirect_function_table") table (omega arith) (omega arith) refl)
    (one IsFormedImport third (import_formed (codes "env") (codes "__memory_base") base_is (omega arith) (omega arith) tt)))

cells_all : (x : ℕ) → x < 256 → All IsFormedImport (made.cell_imports x)
cells_all x lt =
    let function = function_short x lt in
    let value = value_short x lt in
    let cell = imported.Global (made.number_type true) in
    let second = made.import_of (codes "GOT.func") (function_name x) cell in
    All-cons IsFormedImport (made.import_of (codes "GOT.mem") (value_name x) cell) (second ∷ [])
    (import_formed (codes "GOT.mem") (value_name x) cell (omega arith) (omega arith) tt)
    (one IsFormedImport second (import_formed (codes "GOT.func") (function_name x) cell (omega arith) (omega arith) tt))

calls_all : (x : ℕ) → x < 256 → All IsFormedImport (made.main_imports x)
calls_all x lt =
    let function = function_short x lt in
    let second = made.import_of (codes "wasi_snapshot_preview1") (codes "fd_write") (imported.Func 2) in
    All-cons IsFormedImport (made.import_of (codes "env") (function_name x) (imported.Func 1)) (second ∷ [])
    (import_formed (codes "env") (function_name x) (imported.Func 1) (omega arith) (omega arith) tt)
    (one IsFormedImport second (import_formed (codes "wasi_snapshot_preview1") (codes "fd_write") (imported.Func 2) (omega arith) (omega arith) tt))

imports_all : (n k : ℕ) → k < n → n ≤ 255 → All IsFormedImport (made.imports n k)
imports_all n k lt few =
    let below = next_below n k lt in
    let x = made.next n k in
    All-append IsFormedImport made.shared_imports (made.cell_imports x ++ main_alone k (made.main_imports x)) shared_all
    (All-append IsFormedImport (made.cell_imports x) (main_alone k (made.main_imports x)) (cells_all x (omega arith))
    (main_all IsFormedImport k (made.main_imports x) (calls_all x (omega arith))))

exports_all : (k : ℕ) → k < 256 → All IsFormedExport (made.exports k)
exports_all k lt =
    let function = function_short k lt in
    let value = value_short k lt in
    let fifth = made.export_of (codes "_start") (exported.Func (made.own k 3)) in
    let last = main_alone k (fifth ∷ []) in
    let fourth = made.export_of (codes "__wasm_call_ctors") (exported.Func (made.own k 2)) in
    let third = made.export_of (codes "__wasm_apply_data_relocs") (exported.Func (made.own k 1)) in
    let second = made.export_of (value_name k) (exported.Global 3) in
    All-cons IsFormedExport (made.export_of (function_name k) (exported.Func (made.own k 0))) (second ∷ third ∷ fourth ∷ last) (omega arith)
    (All-cons IsFormedExport second (third ∷ fourth ∷ last) (omega arith) (All-cons IsFormedExport third (fourth ∷ last) (omega arith)
    (All-cons IsFormedExport fourth last (omega arith) (main_all IsFormedExport k (fifth ∷ []) (one IsFormedExport fifth (omega arith))))))

-- ---- the whole

customs_placed : (m : Module) (note : List ℕ) → ArePlaced m 0 (made.dylink_section note ∷ [])
customs_placed m note = first refl (omega arith) none

same_many : (n k : ℕ) → length (made.bodies n k) ≡ length (made.funcs k)
same_many n k = by (is_main k)
  where
    by : (b : Bool) → suc (suc (suc (length {A = Code} (cond b (code_of (start_code n) ∷ []) [])))) ≡ suc (suc (suc (length {A = ℕ} (cond b (0 ∷ []) []))))
    by true = refl
    by false = refl

pub member_formed : (n k : ℕ) (note : List ℕ) → k < n → n ≤ 255 → IsWellFormed (made.member n k note)
member_formed n k note lt few =
    let types_few = main_few k (made.four_numbers ∷ []) in
    let imports_few = main_few k (made.main_imports (made.next n k)) in
    let funcs_few = main_few {A = ℕ} k (0 ∷ []) in
    let exports_few = main_few k (made.export_of (codes "_start") (exported.Func (made.own k 3)) ∷ []) in
    let codes_few = main_few k (code_of (start_code n) ∷ []) in
    record {
      types = (omega arith, types_all k);
      imports = (omega arith, imports_all n k lt few);
      funcs = omega arith;
      tables = (omega arith, All-nil IsFormedTable);
      memories = omega arith;
      globals = (omega arith, one IsFormedGlobal made.value_global (number_formed 0));
      exports = (omega arith, exports_all k (omega arith));
      elems = (omega arith, All-nil IsFormedElem);
      codes = (omega arith, bodies_all IsFormedCode n k function_is relocation_is constructor_is (start_is n));
      datas = (omega arith, one IsFormedData (made.region k) (record { mode = base_formed; bytes = omega arith }));
      customs = customs_placed (made.member n k note) note;
      counts = record { bodies = same_many n k; datas = bodies_all IsDataless n k function_dataless relocation_dataless constructor_dataless (start_dataless n) };
    }

pub further_formed : (note : List ℕ) → IsWellFormed (made.further note)
further_formed note = record {
  types = (omega arith, All-nil IsFormedType);
  imports = (omega arith, All-nil IsFormedImport);
  funcs = omega arith;
  tables = (omega arith, All-nil IsFormedTable);
  memories = omega arith;
  globals = (omega arith, All-nil IsFormedGlobal);
  exports = (omega arith, All-nil IsFormedExport);
  elems = (omega arith, All-nil IsFormedElem);
  codes = (omega arith, All-nil IsFormedCode);
  datas = (omega arith, All-nil IsFormedData);
  customs = customs_placed (made.further note) note;
  counts = record { bodies = refl; datas = All-nil IsDataless };
}
