-- Reading instructions and expressions (WebAssembly Core 2.0, section 5.4).
use Rattle.std.specs.Prelude.{ℕ, ℤ, pos, negsuc, zero, suc, Bool, ◌||◌, List, [], ◌∷◌, length, None, Some, Result, Ok, Err, nat_eq, nat_lt, if◌then◌else◌}
use Rattle.spec_binary.specs.wasm_form.declared.instr.BlockType.{BlockType}
use Rattle.spec_binary.specs.wasm_form.declared.instr.BlockType.TheVariants.{Empty, Value, Index as TypeIndex}
use Rattle.spec_binary.specs.wasm_form.declared.instr.Instr.{Instr, Plain, Index, Block, Loop, If, BrTable, CallIndirect, Select, Access, MemorySize, MemoryGrow, I32Const, I64Const, F32Const, F64Const, RefNull, Prefixed}
use Rattle.spec_binary.specs.wasm_form.declared.instr.Expr.{Expr}
use Rattle.spec_binary.specs.Operands.{Operands, NoOperand, OneIndex, BlockBody, LoopBody, IfBodies, Labels, TypeAndTable, ValueTypes, OneRefType, MemoryArgument, MemorySizeByte, MemoryGrowByte, OneI32, OneI64, OneF32, OneF64, SecondOpcode, NoOpcode, operands, SecondOperands, NoNumber, OneNumber, TwoNumbers, NumberAndZero, OneZero, TwoZeros, NoSecondOpcode, second_operands}
use Rattle.spec_reading.specs.Steps.{Break, Broken, TooDeep, ◌>>=◌, Read}
use Rattle.spec_reading.specs.Values.{number_at, signed_at, bits_at, byte_at, vec_at}
use Rattle.spec_reading.specs.Types.{val_type_of, val_type_at, ref_type_at}

-- the type with an index that isn't negative
abbrev pub indexed_type : ℤ → Result BlockType Break
indexed_type (pos n) = Ok (TypeIndex n)
indexed_type (negsuc n) = Err Broken

abbrev pub type_index_at : List ℕ → Read BlockType
type_index_at text = do
  n ← signed_at 33 text
  t ← indexed_type n.0
  Ok (t, n.1)

-- a byte from 0x40 to 0x7F is no type or a value type, and any other begins an index
unfoldable pub block_type_at : List ℕ → Read BlockType
block_type_at [] = Err Broken
block_type_at (b ∷ bs) =
    if nat_eq b 0x40 then Ok (Empty, bs)
    else if nat_lt b 0x40 then type_index_at (b ∷ bs)
    else if nat_lt b 0x80 then (val_type_of b >>= λ t. Ok (Value t, bs))
    else type_index_at (b ∷ bs)

-- what a second opcode gives, with its two numbers
abbrev pub one_number_at : ℕ → List ℕ → Read Instr
one_number_at op text = number_at 32 text >>= λ x. Ok (Prefixed op x.0 0, x.1)

abbrev pub two_numbers_at : ℕ → List ℕ → Read Instr
two_numbers_at op text = do
  x ← number_at 32 text
  y ← number_at 32 x.1
  Ok (Prefixed op x.0 y.0, y.1)

abbrev pub number_and_zero_at : ℕ → List ℕ → Read Instr
number_and_zero_at op text = do
  x ← number_at 32 text
  end ← byte_at 0x00 x.1
  Ok (Prefixed op x.0 0, end.1)

abbrev pub one_zero_at : ℕ → List ℕ → Read Instr
one_zero_at op text = byte_at 0x00 text >>= λ end. Ok (Prefixed op 0 0, end.1)

abbrev pub two_zeros_at : ℕ → List ℕ → Read Instr
two_zeros_at op text = do
  first ← byte_at 0x00 text
  second ← byte_at 0x00 first.1
  Ok (Prefixed op 0 0, second.1)

abbrev pub second_at : SecondOperands → ℕ → List ℕ → Read Instr
second_at NoNumber op text = Ok (Prefixed op 0 0, text)
second_at OneNumber op text = one_number_at op text
second_at TwoNumbers op text = two_numbers_at op text
second_at NumberAndZero op text = number_and_zero_at op text
second_at OneZero op text = one_zero_at op text
second_at TwoZeros op text = two_zeros_at op text
second_at NoSecondOpcode op text = Err Broken

unfoldable pub prefixed_at : List ℕ → Read Instr
prefixed_at text = do
  op ← number_at 32 text
  second_at (second_operands op.0) op.0 op.1

unfoldable pub index_at : ℕ → List ℕ → Read Instr
index_at b text = number_at 32 text >>= λ n. Ok (Index b n.0, n.1)

unfoldable pub labels_at : List ℕ → Read Instr
labels_at text = do
  labels ← vec_at (number_at 32) text
  last ← number_at 32 labels.1
  Ok (BrTable labels.0 last.0, last.1)

unfoldable pub type_and_table_at : List ℕ → Read Instr
type_and_table_at text = do
  ty ← number_at 32 text
  table ← number_at 32 ty.1
  Ok (CallIndirect ty.0 table.0, table.1)

unfoldable pub value_types_at : List ℕ → Read Instr
value_types_at text = vec_at val_type_at text >>= λ ts. Ok (Select ts.0, ts.1)

unfoldable pub ref_null_at : List ℕ → Read Instr
ref_null_at text = ref_type_at text >>= λ t. Ok (RefNull t.0, t.1)

unfoldable pub memory_argument_at : ℕ → List ℕ → Read Instr
memory_argument_at b text = do
  align ← number_at 32 text
  offset ← number_at 32 align.1
  Ok (Access b align.0 offset.0, offset.1)

unfoldable pub memory_size_at : List ℕ → Read Instr
memory_size_at text = byte_at 0x00 text >>= λ end. Ok (MemorySize, end.1)

unfoldable pub memory_grow_at : List ℕ → Read Instr
memory_grow_at text = byte_at 0x00 text >>= λ end. Ok (MemoryGrow, end.1)

unfoldable pub i32_const_at : List ℕ → Read Instr
i32_const_at text = signed_at 32 text >>= λ n. Ok (I32Const n.0, n.1)

unfoldable pub i64_const_at : List ℕ → Read Instr
i64_const_at text = signed_at 64 text >>= λ n. Ok (I64Const n.0, n.1)

unfoldable pub f32_const_at : List ℕ → Read Instr
f32_const_at text = bits_at 4 text >>= λ bits. Ok (F32Const bits.0, bits.1)

unfoldable pub f64_const_at : List ℕ → Read Instr
f64_const_at text = bits_at 8 text >>= λ bits. Ok (F64Const bits.0, bits.1)

-- how instructions inside a block are read, where so many blocks may be nested
abbrev pub Inner : Type 0
Inner = ℕ → List ℕ → Read (List Instr)

abbrev pub expr_of : List Instr → Expr
expr_of is = record { list = is }

-- a block type, the instructions, and the byte that ends them
unfoldable pub body_at : Inner → ℕ → (BlockType → Expr → Instr) → List ℕ → Read Instr
body_at inner zero make text = Err TooDeep
body_at inner (suc d) make text = do
  t ← block_type_at text
  is ← inner d t.1
  end ← byte_at 0x0B is.1
  Ok (make t.0 (expr_of is.0), end.1)

abbrev pub else_at : Inner → ℕ → BlockType → List Instr → List ℕ → Read Instr
else_at inner d t is text = do
  others ← inner d text
  end ← byte_at 0x0B others.1
  Ok (If t (expr_of is) (Some (expr_of others.0)), end.1)

unfoldable pub arms_at : Inner → ℕ → BlockType → List Instr → List ℕ → Read Instr
arms_at inner d t is [] = Err Broken
arms_at inner d t is (b ∷ bs) =
    if nat_eq b 0x0B then Ok (If t (expr_of is) None, bs) else if nat_eq b 0x05 then else_at inner d t is bs else Err Broken

unfoldable pub if_at : Inner → ℕ → List ℕ → Read Instr
if_at inner zero text = Err TooDeep
if_at inner (suc d) text = do
  t ← block_type_at text
  is ← inner d t.1
  arms_at inner d t.0 is.0 is.1

-- what follows the opcode b, which has these operands
abbrev pub operands_at : Inner → ℕ → Operands → ℕ → List ℕ → Read Instr
operands_at inner d NoOperand b text = Ok (Plain b, text)
operands_at inner d OneIndex b text = index_at b text
operands_at inner d BlockBody b text = body_at inner d Block text
operands_at inner d LoopBody b text = body_at inner d Loop text
operands_at inner d IfBodies b text = if_at inner d text
operands_at inner d Labels b text = labels_at text
operands_at inner d TypeAndTable b text = type_and_table_at text
operands_at inner d ValueTypes b text = value_types_at text
operands_at inner d OneRefType b text = ref_null_at text
operands_at inner d MemoryArgument b text = memory_argument_at b text
operands_at inner d MemorySizeByte b text = memory_size_at text
operands_at inner d MemoryGrowByte b text = memory_grow_at text
operands_at inner d OneI32 b text = i32_const_at text
operands_at inner d OneI64 b text = i64_const_at text
operands_at inner d OneF32 b text = f32_const_at text
operands_at inner d OneF64 b text = f64_const_at text
operands_at inner d SecondOpcode b text = prefixed_at text
operands_at inner d NoOpcode b text = Err Broken

abbrev pub instr_at : Inner → ℕ → ℕ → List ℕ → Read Instr
instr_at inner d b text = operands_at inner d (operands b) b text

-- instructions end before `else` and `end`
abbrev pub ends : ℕ → Bool
ends b = nat_eq b 0x05 || nat_eq b 0x0B

abbrev pub instrs_with : Inner → ℕ → ℕ → List ℕ → Read (List Instr)
instrs_with inner d b text = do
  i ← instr_at inner d b text
  is ← inner d i.1
  Ok (i.0 ∷ is.0, is.1)

-- instructions up to the byte that ends them, fewer than k of them in a row
unfoldable pub instrs_at : ℕ → Inner
instrs_at zero d text = Err Broken
instrs_at (suc k) d [] = Err Broken
instrs_at (suc k) d (b ∷ bs) = if ends b then Ok ([], b ∷ bs) else instrs_with (instrs_at k) d b bs

-- the instructions and the byte that ends them
unfoldable pub expr_within : ℕ → ℕ → List ℕ → Read Expr
expr_within k d text = do
  is ← instrs_at k d text
  end ← byte_at 0x0B is.1
  Ok (expr_of is.0, end.1)

abbrev pub expr_at : ℕ → List ℕ → Read Expr
expr_at d text = expr_within (suc (length text)) d text
