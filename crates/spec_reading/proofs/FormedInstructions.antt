-- What is spelled has one of the forms of the binary format: numbers, vectors, instructions and expressions.
use Rattle.std.proofs.Common.{◌≡◌, ℕ, ◌^◌, true, List, length, refl, ◌∙◌}
use Rattle.std.specs.Prelude.{All, IsTrue, nat_lt}
use Rattle.std.proofs.lemmas.Bool.{lt-ltb}
use Rattle.spec_binary.specs.wasm_form.declared.types.ValType.{ValType}
use Rattle.spec_binary.specs.wasm_form.declared.instr.Instr.{Instr}
use Rattle.spec_binary.specs.wasm_form.declared.instr.Instr.TheOpen as Open
use Rattle.spec_binary.specs.wasm_form.declared.instr.Expr.{Expr}
use Rattle.spec_binary.specs.Name.{SpellsName, name}
use Rattle.spec_binary.specs.Sequence.{SpellsVec, vec}
use Rattle.spec_binary.proofs.UnsignedSpelling.{unsigned_small}
use Rattle.spec_binary.proofs.Joined.{each_all}
use Rattle.spec_binary.specs.Types.{SpellsRefType, func_ref, extern_ref}
use Rattle.spec_binary.specs.Instructions.{SpellsSecond, no_number, one_number, two_numbers, number_and_zero, one_zero, two_zeros, SpellsInstr, plain, index, block, loop, if_alone, if_else, labels, type_and_table, value_types, ref_type, memory_argument, memory_size, memory_grow, i32_const, i64_const, f32_const, f64_const, second, SpellsInstrs, done, next as next_instr, SpellsExpr, expr}
use Rattle.spec_binary.specs.Trees.{every, every_of}
use Rattle.spec_binary.specs.WellFormed.{IsShort, is_reference_type, has_form, IsFormedBody}
use Rattle.spec_reading.proofs.Trees.{every-Plain, every-Index, every-Block, every-Loop, every-If-alone, every-If-else, every-BrTable, every-CallIndirect, every-Select, every-Access, every-MemorySize, every-MemoryGrow, every-I32Const, every-I64Const, every-F32Const, every-F64Const, every-RefNull, every-Prefixed}

pub name_short : {text w : List ℕ} → SpellsName text w → IsShort text
name_short (name n u) = unsigned_small n

pub vec_short : {A : Type 0} {S : A → List ℕ → Type 0} {xs : List A} {w : List ℕ} → SpellsVec S xs w → IsShort xs
vec_short (vec n s) = unsigned_small n

pub vec_all : {A : Type 0} {S : A → List ℕ → Type 0} (P : A → Type 0) → ((x : A) (w : List ℕ) → S x w → P x) → {xs : List A} {w : List ℕ} → SpellsVec S xs w → All P xs
vec_all P formed (vec n s) = each_all P formed s

pub ref_type_formed : {t : ValType} {w : List ℕ} → SpellsRefType t w → IsTrue (is_reference_type t)
ref_type_formed func_ref = refl
ref_type_formed extern_ref = refl

short_test : {A : Type 0} (xs : List A) → IsShort xs → nat_lt (length xs) (2 ^ 32) ≡ true
short_test xs h = lt-ltb (length xs) (2 ^ 32) h

second_formed : {op a b : ℕ} {w : List ℕ} → SpellsSecond op a b w → has_form (Open.Prefixed op a b) ≡ true
second_formed (no_number o) = rw o refl
second_formed (one_number o s) = rw o refl
second_formed (two_numbers o s p) = rw o refl
second_formed (number_and_zero o s) = rw o refl
second_formed (one_zero o) = rw o refl
second_formed (two_zeros o) = rw o refl

mutual
  pub instr_formed : {i : Instr} {w : List ℕ} → SpellsInstr i w → every has_form i ≡ true
  instr_formed (plain {b} o) = every-Plain has_form b ∙ (rw o refl)
  instr_formed (index {b} {n} o s) = every-Index has_form b n ∙ (rw o refl)
  instr_formed (block {t} {e} o s p) = every-Block has_form t e ∙ instrs_formed p
  instr_formed (loop {t} {e} o s p) = every-Loop has_form t e ∙ instrs_formed p
  instr_formed (if_alone {t} {e} o s p) = every-If-alone has_form t e ∙ instrs_formed p
  instr_formed (if_else {t} {e} {other} o s p q) = every-If-else has_form t e other ∙ rw (instrs_formed p) (instrs_formed q)
  instr_formed (labels {last} {ls} o s p) = every-BrTable has_form ls last ∙ short_test ls (vec_short s)
  instr_formed (type_and_table {ty} {table} o s p) = every-CallIndirect has_form ty table
  instr_formed (value_types {ts} o s) = every-Select has_form ts ∙ short_test ts (vec_short s)
  instr_formed (ref_type {t} o s) = every-RefNull has_form t ∙ ref_type_formed s
  instr_formed (memory_argument {b} {align} {offset} o s p) = every-Access has_form b align offset ∙ (rw o refl)
  instr_formed (memory_size o) = every-MemorySize has_form
  instr_formed (memory_grow o) = every-MemoryGrow has_form
  instr_formed (i32_const {n} o s) = every-I32Const has_form n
  instr_formed (i64_const {n} o s) = every-I64Const has_form n
  instr_formed (f32_const {bits} o s) = every-F32Const has_form bits
  instr_formed (f64_const {bits} o s) = every-F64Const has_form bits
  instr_formed (second {op} {x} {y} o s p) = every-Prefixed has_form op x y ∙ second_formed p

  pub instrs_formed : {is : List Instr} {w : List ℕ} → SpellsInstrs is w → every_of has_form is ≡ true
  instrs_formed done = refl
  instrs_formed (next_instr s others) = rw (instr_formed s) (instrs_formed others)

pub expr_formed : {e : Expr} {w : List ℕ} → SpellsExpr e w → IsFormedBody e
expr_formed (expr s) = instrs_formed s
