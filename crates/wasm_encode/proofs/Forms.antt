-- What a well formed instruction's form says of its parts.
use Rattle.std.proofs.Common.{◌≡◌, ℕ, ◌^◌, ◌<◌, Bool, List, [], ◌∷◌, length, get_or, Some, None, sym, ap, ◌∙◌, arith}
use Rattle.std.specs.Prelude.{zero, suc, IsTrue}
use Rattle.std.proofs.lemmas.Bool.{and_parts, ltb-true}
use Rattle.wasm_form.specs.declared.types.ValType.{ValType}
use Rattle.wasm_form.specs.declared.instr.BlockType.{BlockType}
use Rattle.wasm_form.specs.declared.instr.Instr.{Instr, Plain, Index, Block, Loop, If, BrTable, Select, Access, RefNull, Prefixed}
use Rattle.wasm_form.specs.declared.instr.Instr.TheOpen as Open
use Rattle.wasm_form.specs.declared.instr.Expr.{Expr}
use Rattle.spec_reading.specs.spec_binary.Operands.{NoOperand, OneIndex, MemoryArgument, operands}
use Rattle.spec_reading.specs.spec_binary.Trees.{every, every_of}
use Rattle.spec_reading.specs.spec_binary.WellFormed.{is_reference_type, has_form}
use Rattle.spec_reading.proofs.Trees.{every-Plain, every-Index, every-Block, every-Loop, every-If-alone, every-If-else, every-BrTable, every-Select, every-Access, every-RefNull, every-Prefixed}
use Rattle.wasm_encode.proofs.Operands.{plain_opcode, index_opcode, access_opcode}

module _ (i : Instr) (h : IsTrue (every has_form i)) where
  at_form : (j : Instr) (b : Bool) → i ≡ j → every has_form j ≡ b → IsTrue b
  at_form j b is e = sym e ∙ sym (ap (every has_form) is) ∙ h

  pub plain_formed : (op : ℕ) → i ≡ Plain op → operands op ≡ NoOperand
  plain_formed op is = plain_opcode op (at_form (Plain op) _ is (every-Plain has_form op))

  pub index_formed : (op n : ℕ) → i ≡ Index op n → operands op ≡ OneIndex
  index_formed op n is = index_opcode op n (at_form (Index op n) _ is (every-Index has_form op n))

  pub access_formed : (op align offset : ℕ) → i ≡ Access op align offset → operands op ≡ MemoryArgument
  access_formed op align offset is = access_opcode op align offset (at_form (Access op align offset) _ is (every-Access has_form op align offset))

  pub block_formed : (t : BlockType) (e : Expr) → i ≡ Block t e → IsTrue (every_of has_form e.list)
  block_formed t e is = at_form (Block t e) _ is (every-Block has_form t e)

  pub loop_formed : (t : BlockType) (e : Expr) → i ≡ Loop t e → IsTrue (every_of has_form e.list)
  loop_formed t e is = at_form (Loop t e) _ is (every-Loop has_form t e)

  pub if_formed : (t : BlockType) (e : Expr) → i ≡ If t e None → IsTrue (every_of has_form e.list)
  if_formed t e is = at_form (If t e None) _ is (every-If-alone has_form t e)

  pub else_formed : (t : BlockType) (e other : Expr) → i ≡ If t e (Some other) → IsTrue (every_of has_form e.list) × IsTrue (every_of has_form other.list)
  else_formed t e other is = and_parts (every_of has_form e.list) (every_of has_form other.list) (at_form (If t e (Some other)) _ is (every-If-else has_form t e other))

  pub labels_formed : (ls : List ℕ) (last : ℕ) → i ≡ BrTable ls last → length ls < 2 ^ 32
  labels_formed ls last is = ltb-true (length ls) (2 ^ 32) (at_form (BrTable ls last) _ is (every-BrTable has_form ls last))

  pub select_formed : (ts : List ValType) → i ≡ Select ts → length ts < 2 ^ 32
  select_formed ts is = ltb-true (length ts) (2 ^ 32) (at_form (Select ts) _ is (every-Select has_form ts))

  pub null_formed : (t : ValType) → i ≡ RefNull t → IsTrue (is_reference_type t)
  null_formed t is = at_form (RefNull t) _ is (every-RefNull has_form t)

  pub prefixed_formed : (op x y : ℕ) → i ≡ Prefixed op x y → IsTrue (has_form (Open.Prefixed op x y))
  prefixed_formed op x y is = at_form (Prefixed op x y) _ is (every-Prefixed has_form op x y)

-- each of formed instructions is formed
pub one_formed : (is : List Instr) (k : ℕ) (i : Instr) → k < length is → i ≡ get_or is k i → IsTrue (every_of has_form is) → IsTrue (every has_form i)
one_formed [] k i h e all = absurd (omega arith)
one_formed (x ∷ xs) zero i h e all = rw e (and_parts (every has_form x) (every_of has_form xs) all).0
one_formed (x ∷ xs) (suc k) i h e all = one_formed xs k i (omega arith) e (and_parts (every has_form x) (every_of has_form xs) all).1
