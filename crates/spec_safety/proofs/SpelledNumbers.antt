-- The constants in the code and in the globals of a module that bytes spell are numbers of their types: each is spelled in so many bits.
use Rattle.std.proofs.Common.{◌≡◌, ℕ, ℤ, pos, negsuc, ◌^◌, true, ◌&&◌, List, [], ◌∷◌, map, refl, sym, ap, ◌∙◌, None, Some, arith, w32, w64}
use Rattle.std.specs.Prelude.{nat_lt}
use Rattle.std.specs.Int.{cast_unsigned}
use Rattle.std.proofs.lemmas.Bool.{lt-ltb}
use Rattle.std.proofs.lemmas.Int.{ints}
use Rattle.spec_execution.specs.wasm_form.declared.instr.Instr.{Instr, roll-Instr}
use Rattle.spec_execution.specs.wasm_form.declared.instr.Instr.TheOpen as Open
use Rattle.spec_execution.specs.wasm_form.declared.instr.Instr.TheVariants.{rolls-Plain, rolls-Index, rolls-Block, rolls-Loop, rolls-If, rolls-BrTable, rolls-CallIndirect, rolls-Select, rolls-Access, rolls-MemorySize, rolls-MemoryGrow, rolls-I32Const, rolls-I64Const, rolls-F32Const, rolls-F64Const, rolls-RefNull, rolls-Prefixed}
use Rattle.spec_execution.specs.wasm_form.declared.instr.Expr.{Expr}
use Rattle.spec_execution.specs.wasm_form.declared.module.Code.{Code}
use Rattle.spec_execution.specs.wasm_form.declared.module.GlobalDef.{GlobalDef}
use Rattle.spec_execution.specs.wasm_form.declared.module.Module.{Module}
use Rattle.spec_execution.proofs.of_wasm_form.Levels.{with_inside, fold_rolled}
use Rattle.spec_execution.specs.spec_binary.Number.{IsSigned}
use Rattle.spec_execution.specs.spec_binary.Instructions.{SpellsInstr, plain, index, block, loop, if_alone, if_else, labels, type_and_table, value_types, ref_type, memory_argument, memory_size, memory_grow, i32_const, i64_const, f32_const, f64_const, second, SpellsInstrs, done, next, SpellsExpr, expr}
use Rattle.spec_execution.specs.spec_binary.Parts.{SpellsConstant, constant, SpellsGlobal, global, SpellsFunc, func, SpellsCode, code}
use Rattle.spec_execution.specs.spec_binary.Trees.{all_true, every_here, every_inside, every}
use Rattle.spec_execution.specs.spec_binary.Modules.{SpellsModule}
use Rattle.spec_execution.proofs.of_spec_binary.Joined.{each_all}
use Rattle.spec_execution.proofs.of_spec_binary.SignedSpelling.{signed_range}
use Rattle.spec_execution.proofs.of_spec_binary.SpelledParts.{module_spelled}
use Rattle.spec_safety.specs.ValueTypes.{constant_fits, constants_fit}
use Rattle.spec_safety.specs.SoundModules.{HoldsNumbers}

-- ---- numbers

signed_small_32 : (n : ℤ) → IsSigned 32 n → nat_lt (cast_unsigned w32 n) (2 ^ 32) ≡ true
signed_small_32 (pos m) is = (let below = is.below in lt-ltb m (2 ^ 32) (omega (arith, ints)))
signed_small_32 (negsuc m) is = lt-ltb (cast_unsigned w32 (negsuc m)) (2 ^ 32) (omega arith)

signed_small_64 : (n : ℤ) → IsSigned 64 n → nat_lt (cast_unsigned w64 n) (2 ^ 64) ≡ true
signed_small_64 (pos m) is = (let below = is.below in lt-ltb m (2 ^ 64) (omega (arith, ints)))
signed_small_64 (negsuc m) is = lt-ltb (cast_unsigned w64 (negsuc m)) (2 ^ 64) (omega arith)

-- ---- code

all_fit : (is : List Instr) → all_true (map (every constant_fits) is) ≡ constants_fit is
all_fit [] = refl
all_fit (i ∷ is) = ap (λ b. every constant_fits i && b) (all_fit is)

-- the constants in an instruction, by what it is made of
fit_rolled : (x : Open.Instr-F Instr Expr) {i : Instr} → roll-Instr x ≡ i
    → every constant_fits i ≡ every_here constant_fits (with_inside constants_fit x)
unfolding every
fit_rolled x e = ap (every constant_fits) (sym e) ∙ fold_rolled (every_here constant_fits) every_inside constants_fit all_fit x

mutual
  instr_fits : {i : Instr} {w : List ℕ} → SpellsInstr i w → every constant_fits i ≡ true
  instr_fits (plain {b} o) = fit_rolled (Open.Plain b) (rolls-Plain b)
  instr_fits (index {b} {n} o s) = fit_rolled (Open.Index b n) (rolls-Index b n)
  instr_fits (block {t} {e} o s p) = fit_rolled (Open.Block t e) (rolls-Block t e) ∙ instrs_fit p
  instr_fits (loop {t} {e} o s p) = fit_rolled (Open.Loop t e) (rolls-Loop t e) ∙ instrs_fit p
  instr_fits (if_alone {t} {e} o s p) = fit_rolled (Open.If t e None) (rolls-If t e None) ∙ instrs_fit p
  instr_fits (if_else {t} {e} {other} o s p q) = fit_rolled (Open.If t e (Some other)) (rolls-If t e (Some other)) ∙ rw (instrs_fit p) (instrs_fit q)
  instr_fits (labels {last} {ls} o s p) = fit_rolled (Open.BrTable ls last) (rolls-BrTable ls last)
  instr_fits (type_and_table {ty} {table} o s p) = fit_rolled (Open.CallIndirect ty table) (rolls-CallIndirect ty table)
  instr_fits (value_types {ts} o s) = fit_rolled (Open.Select ts) (rolls-Select ts)
  instr_fits (ref_type {t} o s) = fit_rolled (Open.RefNull t) (rolls-RefNull t)
  instr_fits (memory_argument {b} {align} {offset} o s p) = fit_rolled (Open.Access b align offset) (rolls-Access b align offset)
  instr_fits (memory_size o) = fit_rolled Open.MemorySize rolls-MemorySize
  instr_fits (memory_grow o) = fit_rolled Open.MemoryGrow rolls-MemoryGrow
  instr_fits (i32_const {n} o s) = fit_rolled (Open.I32Const n) (rolls-I32Const n) ∙ signed_small_32 n (signed_range s)
  instr_fits (i64_const {n} o s) = fit_rolled (Open.I64Const n) (rolls-I64Const n) ∙ signed_small_64 n (signed_range s)
  instr_fits (f32_const {bits} o s) = fit_rolled (Open.F32Const bits) (rolls-F32Const bits)
  instr_fits (f64_const {bits} o s) = fit_rolled (Open.F64Const bits) (rolls-F64Const bits)
  instr_fits (second {op} {x} {y} o s p) = fit_rolled (Open.Prefixed op x y) (rolls-Prefixed op x y)

  instrs_fit : {is : List Instr} {w : List ℕ} → SpellsInstrs is w → constants_fit is ≡ true
  instrs_fit done = refl
  instrs_fit (next s others) = rw (instr_fits s) (instrs_fit others)

-- ---- modules

expr_fits : {e : Expr} {w : List ℕ} → SpellsExpr e w → constants_fit e.list ≡ true
expr_fits (expr s) = instrs_fit s

constant_spelled : {e : Expr} {w : List ℕ} → SpellsConstant e w → constants_fit e.list ≡ true
constant_spelled (constant flat s) = expr_fits s

global_spelled : (g : GlobalDef) (w : List ℕ) → SpellsGlobal g w → constants_fit g.init.list ≡ true
global_spelled g _ (global ty init) = constant_spelled init

func_spelled : {c : Code} {w : List ℕ} → SpellsFunc c w → constants_fit c.body.list ≡ true
func_spelled (func locals body) = expr_fits body

code_spelled : (c : Code) (w : List ℕ) → SpellsCode c w → constants_fit c.body.list ≡ true
code_spelled c _ (code size s) = func_spelled s

pub spelled_numbers : (m : Module) (bytes : List ℕ) → SpellsModule m bytes → HoldsNumbers m
spelled_numbers m bytes text =
    let spelled = module_spelled m bytes text in
    record {
      codes = each_all {Spells = SpellsCode} (λ c. constants_fit c.body.list ≡ true) code_spelled spelled.codes.spelled;
      globals = each_all {Spells = SpellsGlobal} (λ g. constants_fit g.init.list ≡ true) global_spelled spelled.globals.spelled;
    }
