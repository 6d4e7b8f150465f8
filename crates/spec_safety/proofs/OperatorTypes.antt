-- The operators by their opcodes, with their widths.
use Rattle.std.proofs.Common.{arith, ◌≡◌, ◌<◌, ◌^◌, ℕ, true, Option, Some, None, refl, subst, sym, ap}
use Rattle.std.specs.Prelude.{IsSome}
use Rattle.std.proofs.lemmas.Bool.Decides.{nat_tests}
use Rattle.spec_execution.specs.wasm_form.declared.types.ValType.{ValType}
use Rattle.spec_execution.specs.wasm_form.declared.types.ValType.TheVariants.{I32, I64}
use Rattle.spec_execution.specs.wasm_form.declared.plain.Operator.{Operator}
use Rattle.spec_execution.specs.wasm_form.declared.plain.Operator.TheVariants.{Test, Compare, Unary, Binary, Convert}
use Rattle.spec_execution.specs.wasm_form.declared.plain.PlainForm.TheVariants as plain
use Rattle.spec_execution.specs.wasm_form.Plain.{operator, plain_form}
use Rattle.spec_execution.specs.wasm_form.Access.{memory_access}
use Rattle.spec_execution.specs.wasm_form.declared.access.MemoryAccess.{MemoryAccess}
use Rattle.spec_execution.specs.spec_runtime.Numerics.{Width, bits, Unary as UnaryOp, Binary as BinaryOp, Compare as CompareOp, Convert as ConvertOp, WrapI64, ExtendI32S, ExtendI32U, I32Extend8S, I32Extend16S, I64Extend8S, I64Extend16S, I64Extend32S, unary_of, binary_of, compare_of, convert_of, converts_to}
use Rattle.spec_execution.specs.Values.{is_number}
use Rattle.spec_execution.specs.Views.{type_bits}

pub plain_operator : (op : ℕ) (x : Operator) → plain_form op ≡ Some (plain.Operator x) → operator op ≡ Some x
plain_operator op x e = grind (arith, nat_tests)

there : {A : Type 0} (o : Option A) → IsSome o → (a : A) × (o ≡ Some a)
there None h = absurd cc
there (Some a) h = (a, refl)

test_some : (op : ℕ) (t : ValType) → operator op ≡ Some (Test t) → IsSome (compare_of op)
test_some op t e = grind (arith, nat_tests)

compare_some : (op : ℕ) (t : ValType) → operator op ≡ Some (Compare t) → IsSome (compare_of op)
compare_some op t e = grind (arith, nat_tests)

unary_some : (op : ℕ) (t : ValType) → operator op ≡ Some (Unary t) → IsSome (unary_of op)
unary_some op t e = grind (arith, nat_tests)

binary_some : (op : ℕ) (t : ValType) → operator op ≡ Some (Binary t) → IsSome (binary_of op)
binary_some op t e = grind (arith, nat_tests)

convert_some : (op : ℕ) (from to : ValType) → operator op ≡ Some (Convert from to) → IsSome (convert_of op)
convert_some op from to e = grind (arith, nat_tests)

test_number : (op : ℕ) (t : ValType) → operator op ≡ Some (Test t) → is_number t ≡ true
test_number op t e = grind (arith, nat_tests)

compare_number : (op : ℕ) (t : ValType) → operator op ≡ Some (Compare t) → is_number t ≡ true
compare_number op t e = grind (arith, nat_tests)

unary_number : (op : ℕ) (t : ValType) → operator op ≡ Some (Unary t) → is_number t ≡ true
unary_number op t e = grind (arith, nat_tests)

binary_number : (op : ℕ) (t : ValType) → operator op ≡ Some (Binary t) → is_number t ≡ true
binary_number op t e = grind (arith, nat_tests)

convert_from : (op : ℕ) (from to : ValType) → operator op ≡ Some (Convert from to) → is_number from ≡ true
convert_from op from to e = grind (arith, nat_tests)

convert_to : (op : ℕ) (from to : ValType) → operator op ≡ Some (Convert from to) → is_number to ≡ true
convert_to op from to e = grind (arith, nat_tests)

unary_width : (op : ℕ) (t : ValType) (o : Width × UnaryOp) → operator op ≡ Some (Unary t) → unary_of op ≡ Some o → type_bits t ≡ bits o.0
unary_width op t o e f = grind (arith, nat_tests)

binary_width : (op : ℕ) (t : ValType) (o : Width × BinaryOp) → operator op ≡ Some (Binary t) → binary_of op ≡ Some o → type_bits t ≡ bits o.0
binary_width op t o e f = grind (arith, nat_tests)

abbrev opcode : ConvertOp → ℕ
opcode WrapI64 = 0xA7
opcode ExtendI32S = 0xAC
opcode ExtendI32U = 0xAD
opcode I32Extend8S = 0xC0
opcode I32Extend16S = 0xC1
opcode I64Extend8S = 0xC2
opcode I64Extend16S = 0xC3
opcode I64Extend32S = 0xC4

opcode_is : (op : ℕ) (o : ConvertOp) → convert_of op ≡ Some o → op ≡ opcode o
opcode_is op o e = grind (arith, nat_tests)

convert_width : (op : ℕ) (from to : ValType) (o : ConvertOp) → operator op ≡ Some (Convert from to) → convert_of op ≡ Some o
    → type_bits to ≡ bits (converts_to o)
convert_width op from to o e f = go o (subst (λ n. operator n ≡ Some (Convert from to)) (opcode_is op o f) e)
  where
    width : (t : ValType) → t ≡ to → type_bits to ≡ type_bits t
    width t same = ap type_bits (sym same)

    go : (o : ConvertOp) → operator (opcode o) ≡ Some (Convert from to) → type_bits to ≡ bits (converts_to o)
    go WrapI64 e = width I32 cc
    go ExtendI32S e = width I64 cc
    go ExtendI32U e = width I64 cc
    go I32Extend8S e = width I32 cc
    go I32Extend16S e = width I32 cc
    go I64Extend8S e = width I64 cc
    go I64Extend16S e = width I64 cc
    go I64Extend32S e = width I64 cc

pub tests : (op : ℕ) (t : ValType) → operator op ≡ Some (Test t) → (o : Width × CompareOp) × (compare_of op ≡ Some o) × (is_number t ≡ true)
tests op t e = let o = there (compare_of op) (test_some op t e) in (o.0, o.1, test_number op t e)

pub compares : (op : ℕ) (t : ValType) → operator op ≡ Some (Compare t) → (o : Width × CompareOp) × (compare_of op ≡ Some o) × (is_number t ≡ true)
compares op t e = let o = there (compare_of op) (compare_some op t e) in (o.0, o.1, compare_number op t e)

pub counts : (op : ℕ) (t : ValType) → operator op ≡ Some (Unary t)
    → (o : Width × UnaryOp) × (unary_of op ≡ Some o) × (is_number t ≡ true) × (type_bits t ≡ bits o.0)
counts op t e = let o = there (unary_of op) (unary_some op t e) in (o.0, o.1, unary_number op t e, unary_width op t o.0 e o.1)

pub computes : (op : ℕ) (t : ValType) → operator op ≡ Some (Binary t)
    → (o : Width × BinaryOp) × (binary_of op ≡ Some o) × (is_number t ≡ true) × (type_bits t ≡ bits o.0)
computes op t e = let o = there (binary_of op) (binary_some op t e) in (o.0, o.1, binary_number op t e, binary_width op t o.0 e o.1)

pub converts : (op : ℕ) (from to : ValType) → operator op ≡ Some (Convert from to)
    → (o : ConvertOp) × (convert_of op ≡ Some o) × (is_number from ≡ true) × (is_number to ≡ true) × (type_bits to ≡ bits (converts_to o))
converts op from to e =
    let o = there (convert_of op) (convert_some op from to e) in
    (o.0, o.1, convert_from op from to e, convert_to op from to e, convert_width op from to o.0 e o.1)

-- a number of so many bits, as many as its type has
pub at_width : (t : ValType) (b n : ℕ) → type_bits t ≡ b → n < 2 ^ b → n < 2 ^ type_bits t
at_width t b n e h = subst (λ k. n < 2 ^ k) (sym e) h

pub access_number : (op : ℕ) (m : MemoryAccess) → memory_access op ≡ Some m → is_number m.value ≡ true
access_number op m e = grind (arith, nat_tests)
