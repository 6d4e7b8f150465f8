-- The numbers in constant expressions that are spelled fit their types.
use Rattle.std.proofs.Common.{ℕ, ℤ, pos, negsuc, ◌^◌, ◌<◌, List, [], ◌∷◌, arith}
use Rattle.std.specs.Int.{cast_unsigned, w32, w64}
use Rattle.std.proofs.lemmas.Int.{ints}
use denote.Hole.Carrier.{out}
use Rattle.spec_reading.specs.wasm_form.declared.instr.Instr.{Instr, out-Instr}
use Rattle.spec_reading.specs.wasm_form.declared.instr.Instr.TheOpen as Open
use Rattle.spec_reading.specs.wasm_form.declared.instr.Expr.{Expr}
use Rattle.spec_reading.specs.wasm_form.declared.module.ElemMode.{ElemMode}
use Rattle.spec_reading.specs.wasm_form.declared.module.ElemMode.TheVariants as elem_mode
use Rattle.spec_reading.specs.wasm_form.declared.module.Elem.{Elem}
use Rattle.spec_reading.specs.wasm_form.declared.module.DataMode.{DataMode}
use Rattle.spec_reading.specs.wasm_form.declared.module.DataMode.TheVariants as data_mode
use Rattle.spec_reading.specs.wasm_form.declared.module.Data.{Data}
use Rattle.spec_reading.specs.wasm_form.declared.module.GlobalDef.{GlobalDef}
use Rattle.spec_reading.specs.spec_binary.Number.{IsSigned}
use Rattle.spec_reading.specs.wasm_form.declared.module.Module.{Module}
use Rattle.spec_reading.proofs.of_spec_binary.SignedSpelling.{signed_range}
use Rattle.spec_reading.proofs.of_spec_binary.Joined.{each_all}
use Rattle.std.specs.List.{All}
use Rattle.std.proofs.lemmas.List.Elements.{All-nil, All-cons}
use Rattle.spec_reading.proofs.of_spec_binary.SpelledParts.{AreSpelled}
use Rattle.spec_reading.specs.spec_binary.Instructions.{SpellsInstr, SpellsInstrs}
use Rattle.spec_reading.specs.spec_binary.Instructions as instructions
use Rattle.spec_reading.specs.spec_binary.Parts.{SpellsConstant, SpellsGlobal, SpellsElemMode, SpellsElem, SpellsDataMode, SpellsData}
use Rattle.spec_reading.specs.spec_binary.Parts as parts

-- a number fits its type
abbrev pub FitsHere : Open.Instr-F Instr Expr → Type 0
FitsHere (Open.I32Const z) = cast_unsigned w32 z < 2 ^ 32
FitsHere (Open.I64Const z) = cast_unsigned w64 z < 2 ^ 64
FitsHere _ = Unit {0}

abbrev pub Fit : List Instr → Type 0
Fit [] = Unit {0}
Fit (i ∷ is) = FitsHere (out-Instr i) × Fit is

low_32 : (z : ℤ) → IsSigned 32 z → cast_unsigned w32 z < 2 ^ 32
low_32 (pos n) is = (let below = is.below in grind (arith, ints))
low_32 (negsuc n) is = omega arith

low_64 : (z : ℤ) → IsSigned 64 z → cast_unsigned w64 z < 2 ^ 64
low_64 (pos n) is = (let below = is.below in grind (arith, ints))
low_64 (negsuc n) is = omega arith

instr_fits : {i : Instr} {w : List ℕ} → SpellsInstr i w → FitsHere (out-Instr i)
unfolding out-Instr out
instr_fits (instructions.i32_const {n = n} op number) = low_32 n (signed_range number)
instr_fits (instructions.i64_const {n = n} op number) = low_64 n (signed_range number)
instr_fits (instructions.plain op) = tt
instr_fits (instructions.index op k) = tt
instr_fits (instructions.block op t is) = tt
instr_fits (instructions.loop op t is) = tt
instr_fits (instructions.if_alone op t is) = tt
instr_fits (instructions.if_else op t is others) = tt
instr_fits (instructions.labels op ls k) = tt
instr_fits (instructions.type_and_table op t k) = tt
instr_fits (instructions.value_types op ts) = tt
instr_fits (instructions.ref_type op t) = tt
instr_fits (instructions.memory_argument op a o) = tt
instr_fits (instructions.memory_size op) = tt
instr_fits (instructions.memory_grow op) = tt
instr_fits (instructions.f32_const op bits) = tt
instr_fits (instructions.f64_const op bits) = tt
instr_fits (instructions.second op k s) = tt

instrs_fit : {is : List Instr} {w : List ℕ} → SpellsInstrs is w → Fit is
instrs_fit instructions.done = tt
instrs_fit (instructions.next i is) = (instr_fits i, instrs_fit is)

-- each instruction of the list
pub each_fits : (is : List Instr) → Fit is → All (λ i. FitsHere (out-Instr i)) is
each_fits [] fit = All-nil (λ i. FitsHere (out-Instr i))
each_fits (i ∷ is) fit = All-cons (λ i. FitsHere (out-Instr i)) i is fit.0 (each_fits is fit.1)

constant_fits : {e : Expr} {w : List ℕ} → SpellsConstant e w → Fit e.list
constant_fits (parts.constant flat (instructions.expr is)) = instrs_fit is

-- ---- the parts that have them

abbrev pub ModeFits : ElemMode → Type 0
ModeFits (elem_mode.Active t offset) = Fit offset.list
ModeFits elem_mode.Passive = Unit {0}
ModeFits elem_mode.Declarative = Unit {0}

abbrev pub DataModeFits : DataMode → Type 0
DataModeFits (data_mode.Active memory offset) = Fit offset.list
DataModeFits data_mode.Passive = Unit {0}

mode_fits : {flags : ℕ} {mode : ElemMode} {w : List ℕ} → SpellsElemMode flags mode w → ModeFits mode
mode_fits (parts.first_table offset) = constant_fits offset
mode_fits parts.passive = tt
mode_fits (parts.named_table table offset) = constant_fits offset
mode_fits parts.declarative = tt

data_mode_fits : {flags : ℕ} {mode : DataMode} {w : List ℕ} → SpellsDataMode flags mode w → DataModeFits mode
data_mode_fits (parts.first_memory offset) = constant_fits offset
data_mode_fits parts.passive = tt
data_mode_fits (parts.named_memory memory offset) = constant_fits offset

elem_fits : (s : Elem) (w : List ℕ) → SpellsElem s w → ModeFits s.mode
elem_fits s _ (parts.segment flags mode items) = mode_fits mode

data_fits : (s : Data) (w : List ℕ) → SpellsData s w → DataModeFits s.mode
data_fits s _ (parts.segment flags mode bytes) = data_mode_fits mode

global_fits : (g : GlobalDef) (w : List ℕ) → SpellsGlobal g w → Fit g.init.list
global_fits g _ (parts.global ty init) = constant_fits init

pub record ConstantsFit (m : Module) : Type 0 where
  pub globals : All (λ (g : GlobalDef). Fit g.init.list) m.globals
  pub elems : All (λ (s : Elem). ModeFits s.mode) m.elems
  pub datas : All (λ (s : Data). DataModeFits s.mode) m.datas

pub constants_fit : (m : Module) (size : ℕ) → AreSpelled m size → ConstantsFit m
constants_fit m size is = record {
  globals = each_all (λ (g : GlobalDef). Fit g.init.list) global_fits is.globals.spelled;
  elems = each_all (λ (s : Elem). ModeFits s.mode) elem_fits is.elems.spelled;
  datas = each_all (λ (s : Data). DataModeFits s.mode) data_fits is.datas.spelled;
}
