-- Of the words of an instruction one alone is the shortest, and so of those of an expression.
use Rattle.std.proofs.Common.{◌≡◌, ℕ, pos, ◌+◌, ◌*◌, ◌<◌, List, [], ◌∷◌, ◌++◌, Some, None, refl, sym, ap, ◌∙◌, subst, arith}
use Rattle.wasm_form.specs.declared.instr.BlockType.{BlockType}
use Rattle.wasm_form.specs.declared.instr.BlockType.TheVariants.{Empty, Value, Index as TypeIndex}
use Rattle.wasm_form.specs.declared.instr.Instr.{Instr, Plain, BrTable, CallIndirect, Access, MemorySize, MemoryGrow, Prefixed, out-Instr, out-roll-Instr}
use Rattle.wasm_form.specs.declared.instr.Instr.TheOpen as Open
use Rattle.wasm_form.specs.declared.instr.Instr.TheVariants.{rolls-Plain, rolls-Index, rolls-Block, rolls-Loop, rolls-If, rolls-BrTable, rolls-CallIndirect, rolls-Select, rolls-Access, rolls-MemorySize, rolls-MemoryGrow, rolls-I32Const, rolls-I64Const, rolls-F32Const, rolls-F64Const, rolls-RefNull, rolls-Prefixed}
use Rattle.wasm_form.specs.declared.instr.Expr.{Expr}
use Rattle.spec_reading.specs.spec_binary.Number.{SpellsUnsigned}
use Rattle.spec_reading.specs.spec_binary.Operands.{NoNumber, OneNumber, TwoNumbers, NumberAndZero, OneZero, TwoZeros, BlockBody, LoopBody, IfBodies, Labels, TypeAndTable, ValueTypes, OneRefType, MemorySizeByte, MemoryGrowByte, OneI32, OneI64, OneF32, OneF64, SecondOpcode}
use Rattle.spec_reading.specs.spec_binary.Instructions.{SpellsBlockType, value, index as type_index, SpellsBits, none, next as next_bits, SpellsSecond, no_number, one_number, two_numbers, number_and_zero, one_zero, two_zeros, SpellsInstr, plain, index, block, loop, if_alone, if_else, labels, type_and_table, value_types, ref_type, memory_argument, memory_size, memory_grow, i32_const, i64_const, f32_const, f64_const, second, SpellsInstrs, done, next, SpellsExpr, expr}
use Rattle.spec_reading.specs.spec_binary.Joined.{IsByte, Joined}
use Rattle.spec_reading.proofs.of_spec_binary.Joined.{joined, behind, unjoined, after_byte}
use Rattle.spec_reading.proofs.of_spec_binary.UnsignedSpelling.{one_shortest_unsigned}
use Rattle.spec_reading.proofs.of_spec_binary.SignedSpelling.{one_shortest_signed}
use Rattle.wasm_encode.specs.Bodies.{IsBody, IsBodies}
use Rattle.wasm_encode.proofs.Operands.{second_word}
use Rattle.wasm_encode.proofs.OneOpcode.{opcode_is}
use Rattle.wasm_encode.proofs.Instructions.{Immediate, opcode_of, is_coded, body_made, bodies_made, expr_parts, block_type_empty, block_type_value, block_type_index}
use Rattle.wasm_encode.proofs.OneWord.{OneWord, one_is, one_byte, one_like, one_joined, one_vec}
use Rattle.wasm_encode.proofs.OneForm.{one_ref_type, one_val_type}

number : (v : ℕ) → OneWord (SpellsUnsigned 32 v)
number v = one_shortest_unsigned 32 v

-- what follows an opcode

one_block_type : (t : BlockType) → OneWord (SpellsBlockType t)
one_block_type Empty = one_is (0x40 ∷ []) (λ w s. block_type_empty s)
one_block_type (Value v) = one_like (λ w s. block_type_value s) (λ w s. value s) (one_val_type v)
one_block_type (TypeIndex n) = one_like (λ w s. block_type_index s) (λ w s. type_index s) (one_shortest_signed 33 (pos n))

low_same : (b c h g : ℕ) → b < 256 → c < 256 → b + 256 * h ≡ c + 256 * g → (b ≡ c) × (h ≡ g)
low_same b c h g l k e = (omega arith, omega arith)

bits_same : {n v u : ℕ} {w x : List ℕ} → SpellsBits n v w → SpellsBits n u x → v ≡ u → w ≡ x
bits_same none none e = refl
bits_same (next_bits {b} {high = h} {w} l is s) (next_bits {b = c} {high = g} {w = x} k also t) e =
    let parts = low_same b c h g l k (sym is ∙ e ∙ also) in
    ap (λ y. y ∷ w) parts.0 ∙ ap (λ y. c ∷ y) (bits_same s t parts.1)

one_bits : (n v : ℕ) → OneWord (SpellsBits n v)
one_bits n v w x s t = bits_same s.spelled t.spelled refl

zeros_are : (w : List ℕ) → Joined (IsByte 0x00) (IsByte 0x00) w → w ≡ 0x00 ∷ 0x00 ∷ []
zeros_are w j = j.parts ∙ ap (λ z. z ++ j.after) j.first ∙ ap (λ z. 0x00 ∷ z) j.rest

one_second : {op x y : ℕ} {u : List ℕ} → SpellsSecond op x y u → OneWord (SpellsSecond op x y)
one_second (no_number e) = one_is [] (λ w s. second_word NoNumber e s)
one_second (one_number {a} e p) = one_like (λ w s. second_word OneNumber e s) (λ w s. one_number e s) (number a)
one_second (two_numbers {op} {a} {b} e p q) =
    one_like (λ w s. second_word TwoNumbers e s) (unjoined (SpellsSecond op a b) (λ w v s t. two_numbers e s t)) (one_joined (number a) (number b))
one_second (number_and_zero {op} {a} e p) =
    one_like (λ w s. second_word NumberAndZero e s) (unjoined (SpellsSecond op a 0) (λ w v s z. subst (λ u. SpellsSecond op a 0 (w ++ u)) (sym z) (number_and_zero e s)))
    (one_joined (number a) (one_byte 0x00))
one_second (one_zero e) = one_is (0x00 ∷ []) (λ w s. second_word OneZero e s)
one_second (two_zeros e) = one_is (0x00 ∷ 0x00 ∷ []) (λ w s. zeros_are w (second_word TwoZeros e s))

-- an opcode, and what follows it
coded : {i : Instr} (x : Open.Instr-F Instr Expr) → out-Instr i ≡ x → (b : ℕ) → b ≡ opcode_of x → ((w : List ℕ) → Immediate x w → SpellsInstr i (b ∷ w)) → OneWord (Immediate x) → OneWord (SpellsInstr i)
coded {i} x out b is make one = one_like parts (after_byte (SpellsInstr i) make) (one_joined (one_byte b) one)
  where
    parts : (w : List ℕ) → SpellsInstr i w → Joined (IsByte b) (Immediate x) w
    parts w s =
        let c = is_coded s in
        subst (Joined (IsByte b) (Immediate x)) (ap (λ o. o ∷ c.after) (is ∙ ap opcode_of (sym out) ∙ sym c.known) ∙ sym c.parts) (behind b c.after (subst (λ y. Immediate y c.after) out c.immediate))

body : (t : BlockType) (e : Expr) → OneWord (SpellsInstrs e.list) → OneWord (IsBody t e)
body t e one = one_joined (one_block_type t) (one_joined one (one_byte 0x0B))

bodies : (t : BlockType) (e other : Expr) → OneWord (SpellsInstrs e.list) → OneWord (SpellsInstrs other.list) → OneWord (IsBodies t e other)
bodies t e other one two = one_joined (one_block_type t) (one_joined one (one_joined (one_byte 0x05) (one_joined two (one_byte 0x0B))))

nothing_left : {w : List ℕ} → SpellsInstrs [] w → w ≡ []
nothing_left done = refl

first_left : {i : Instr} {is : List Instr} {w : List ℕ} → SpellsInstrs (i ∷ is) w → Joined (SpellsInstr i) (SpellsInstrs is) w
first_left (next s rest) = joined _ _ s rest

-- by one of the words
mutual
  one_instr : {i : Instr} {u : List ℕ} → SpellsInstr i u → OneWord (SpellsInstr i)
  one_instr (plain {b} o) =
      coded (Open.Plain b) (ap out-Instr (sym (rolls-Plain b)) ∙ out-roll-Instr (Open.Plain b)) b refl (λ w p. subst (λ v. SpellsInstr (Plain b) (b ∷ v)) (sym p) (plain o)) (one_is [] (λ w p. p))
  one_instr (index {b} {n} o p) = coded (Open.Index b n) (ap out-Instr (sym (rolls-Index b n)) ∙ out-roll-Instr (Open.Index b n)) b refl (λ w s. index o s) (number n)
  one_instr (block {b} {t} {e} o p q) =
      coded (Open.Block t e) (ap out-Instr (sym (rolls-Block t e)) ∙ out-roll-Instr (Open.Block t e)) b (opcode_is b BlockBody o) (body_made {t = t} {e = e} b (λ w v s r. block o s r)) (body t e (one_instrs q))
  one_instr (loop {b} {t} {e} o p q) =
      coded (Open.Loop t e) (ap out-Instr (sym (rolls-Loop t e)) ∙ out-roll-Instr (Open.Loop t e)) b (opcode_is b LoopBody o) (body_made {t = t} {e = e} b (λ w v s r. loop o s r)) (body t e (one_instrs q))
  one_instr (if_alone {b} {t} {e} o p q) =
      coded (Open.If t e None) (ap out-Instr (sym (rolls-If t e None)) ∙ out-roll-Instr (Open.If t e None)) b (opcode_is b IfBodies o) (body_made {t = t} {e = e} b (λ w v s r. if_alone o s r))
      (body t e (one_instrs q))
  one_instr (if_else {b} {t} {e} {other} o p q r) =
      coded (Open.If t e (Some other)) (ap out-Instr (sym (rolls-If t e (Some other))) ∙ out-roll-Instr (Open.If t e (Some other))) b (opcode_is b IfBodies o) (bodies_made b o t e other)
      (bodies t e other (one_instrs q) (one_instrs r))
  one_instr (labels {b} {last} {ls} o p q) =
      coded (Open.BrTable ls last) (ap out-Instr (sym (rolls-BrTable ls last)) ∙ out-roll-Instr (Open.BrTable ls last)) b (opcode_is b Labels o)
      (unjoined (λ u. SpellsInstr (BrTable ls last) (b ∷ u)) (λ w v s r. labels o s r)) (one_joined (one_vec number ls) (number last))
  one_instr (type_and_table {b} {ty} {table} o p q) =
      coded (Open.CallIndirect ty table) (ap out-Instr (sym (rolls-CallIndirect ty table)) ∙ out-roll-Instr (Open.CallIndirect ty table)) b (opcode_is b TypeAndTable o)
      (unjoined (λ u. SpellsInstr (CallIndirect ty table) (b ∷ u)) (λ w v s r. type_and_table o s r)) (one_joined (number ty) (number table))
  one_instr (value_types {b} {ts} o p) =
      coded (Open.Select ts) (ap out-Instr (sym (rolls-Select ts)) ∙ out-roll-Instr (Open.Select ts)) b (opcode_is b ValueTypes o) (λ w s. value_types o s) (one_vec one_val_type ts)
  one_instr (ref_type {b} {t} o p) =
      coded (Open.RefNull t) (ap out-Instr (sym (rolls-RefNull t)) ∙ out-roll-Instr (Open.RefNull t)) b (opcode_is b OneRefType o) (λ w s. ref_type o s) (one_ref_type t)
  one_instr (memory_argument {b} {align} {offset} o p q) =
      coded (Open.Access b align offset) (ap out-Instr (sym (rolls-Access b align offset)) ∙ out-roll-Instr (Open.Access b align offset)) b refl
      (unjoined (λ u. SpellsInstr (Access b align offset) (b ∷ u)) (λ w v s r. memory_argument o s r)) (one_joined (number align) (number offset))
  one_instr (memory_size {b} o) =
      coded Open.MemorySize (ap out-Instr (sym rolls-MemorySize) ∙ out-roll-Instr Open.MemorySize) b (opcode_is b MemorySizeByte o)
      (λ w p. subst (λ v. SpellsInstr MemorySize (b ∷ v)) (sym p) (memory_size o)) (one_byte 0x00)
  one_instr (memory_grow {b} o) =
      coded Open.MemoryGrow (ap out-Instr (sym rolls-MemoryGrow) ∙ out-roll-Instr Open.MemoryGrow) b (opcode_is b MemoryGrowByte o)
      (λ w p. subst (λ v. SpellsInstr MemoryGrow (b ∷ v)) (sym p) (memory_grow o)) (one_byte 0x00)
  one_instr (i32_const {b} {n} o p) =
      coded (Open.I32Const n) (ap out-Instr (sym (rolls-I32Const n)) ∙ out-roll-Instr (Open.I32Const n)) b (opcode_is b OneI32 o) (λ w s. i32_const o s) (one_shortest_signed 32 n)
  one_instr (i64_const {b} {n} o p) =
      coded (Open.I64Const n) (ap out-Instr (sym (rolls-I64Const n)) ∙ out-roll-Instr (Open.I64Const n)) b (opcode_is b OneI64 o) (λ w s. i64_const o s) (one_shortest_signed 64 n)
  one_instr (f32_const {b} {bits} o p) =
      coded (Open.F32Const bits) (ap out-Instr (sym (rolls-F32Const bits)) ∙ out-roll-Instr (Open.F32Const bits)) b (opcode_is b OneF32 o) (λ w s. f32_const o s) (one_bits 4 bits)
  one_instr (f64_const {b} {bits} o p) =
      coded (Open.F64Const bits) (ap out-Instr (sym (rolls-F64Const bits)) ∙ out-roll-Instr (Open.F64Const bits)) b (opcode_is b OneF64 o) (λ w s. f64_const o s) (one_bits 8 bits)
  one_instr (second {b} {op} {x} {y} o p q) =
      coded (Open.Prefixed op x y) (ap out-Instr (sym (rolls-Prefixed op x y)) ∙ out-roll-Instr (Open.Prefixed op x y)) b (opcode_is b SecondOpcode o)
      (unjoined (λ u. SpellsInstr (Prefixed op x y) (b ∷ u)) (λ w v s r. second o s r)) (one_joined (number op) (one_second q))

  one_instrs : {is : List Instr} {u : List ℕ} → SpellsInstrs is u → OneWord (SpellsInstrs is)
  one_instrs done = one_is [] (λ w s. nothing_left s)
  one_instrs (next {i} {is} p q) = one_like (λ w s. first_left s) (unjoined (SpellsInstrs (i ∷ is)) (λ w v s t. next s t)) (one_joined (one_instr p) (one_instrs q))

-- expressions
pub one_expr : (e : Expr) → OneWord (SpellsExpr e)
one_expr e w v s t =
    one_like (λ u p. expr_parts p) (unjoined (SpellsExpr e) (λ x y p is. subst (λ z. SpellsExpr e (x ++ z)) (sym is) (expr p))) (one_joined (one_instrs (expr_parts s.spelled).first) (one_byte 0x0B)) w v s t
