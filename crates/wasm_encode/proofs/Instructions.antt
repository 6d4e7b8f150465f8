-- What the writers of instructions and expressions write.
use Rattle.std.proofs.Common.{◌≡◌, ℕ, ℤ, pos, List, [], ◌∷◌, ◌++◌, length, length-append, Some, None, refl, sym, ap, ◌∙◌, subst, append_assoc, arith}
use Rattle.wasm_form.specs.declared.types.ValType.{ValType}
use Rattle.wasm_form.specs.declared.instr.BlockType.{BlockType}
use Rattle.wasm_form.specs.declared.instr.BlockType.TheVariants.{Empty, Value, Index as TypeIndex}
use Rattle.wasm_form.specs.declared.instr.Instr.{Instr, Plain, Index, Block, Loop, If, BrTable, CallIndirect, Select, Access, MemorySize, MemoryGrow, I32Const, I64Const, F32Const, F64Const, RefNull, Prefixed, out-Instr, out-roll-Instr}
use Rattle.wasm_form.specs.declared.instr.Instr.TheOpen as Open
use Rattle.wasm_form.specs.declared.instr.Instr.TheVariants.{rolls-Plain, rolls-Index, rolls-Block, rolls-Loop, rolls-If, rolls-BrTable, rolls-CallIndirect, rolls-Select, rolls-Access, rolls-MemorySize, rolls-MemoryGrow, rolls-I32Const, rolls-I64Const, rolls-F32Const, rolls-F64Const, rolls-RefNull, rolls-Prefixed}
use Rattle.wasm_form.specs.declared.instr.Expr.{Expr}
use Rattle.spec_reading.specs.spec_binary.Number.{SpellsUnsigned, SpellsSigned, IsShortest, Appends}
use Rattle.spec_reading.specs.spec_binary.Sequence.{SpellsEach, none, next as each_next, SpellsVec}
use Rattle.spec_reading.specs.spec_binary.Types.{SpellsRefType, SpellsValType}
use Rattle.spec_reading.specs.spec_binary.Operands.{NoOperand, OneIndex, BlockBody, LoopBody, IfBodies, Labels, TypeAndTable, ValueTypes, OneRefType, MemoryArgument, MemorySizeByte, MemoryGrowByte, OneI32, OneI64, OneF32, OneF64, SecondOpcode, control_operands, access_operands, reference_operands, operands}
use Rattle.spec_reading.specs.spec_binary.Instructions.{SpellsBlockType, empty, value, index as type_index, SpellsBits, SpellsSecond, SpellsInstr, plain, index, block, loop, if_alone, if_else, labels, type_and_table, value_types, ref_type, memory_argument, memory_size, memory_grow, i32_const, i64_const, f32_const, f64_const, second, SpellsInstrs, done, next, SpellsExpr, expr}
use Rattle.spec_reading.specs.spec_binary.Joined.{IsByte, Joined}
use Rattle.wasm_encode.specs.Bodies.{IsBody, IsBodies}
use Rattle.spec_reading.proofs.of_spec_binary.Joined.{joined, behind, unjoined, after_byte, AtMost, itself, appends_byte, appends_joined, appends_like}
use Rattle.wasm_encode.proofs.TypeForms.{coded_written}
use Rattle.wasm_encode.proofs.OneOpcode.{opcode_is}

-- what follows the opcode
abbrev pub Immediate : Open.Instr-F Instr Expr → List ℕ → Type 0
Immediate (Open.Plain op) w = w ≡ []
Immediate (Open.Index op n) w = SpellsUnsigned 32 n w
Immediate (Open.Block t e) w = IsBody t e w
Immediate (Open.Loop t e) w = IsBody t e w
Immediate (Open.If t e None) w = IsBody t e w
Immediate (Open.If t e (Some other)) w = IsBodies t e other w
Immediate (Open.BrTable ls last) w = Joined (SpellsVec (SpellsUnsigned 32) ls) (SpellsUnsigned 32 last) w
Immediate (Open.CallIndirect ty table) w = Joined (SpellsUnsigned 32 ty) (SpellsUnsigned 32 table) w
Immediate (Open.Select ts) w = SpellsVec SpellsValType ts w
Immediate (Open.Access op align offset) w = Joined (SpellsUnsigned 32 align) (SpellsUnsigned 32 offset) w
Immediate Open.MemorySize w = w ≡ 0x00 ∷ []
Immediate Open.MemoryGrow w = w ≡ 0x00 ∷ []
Immediate (Open.I32Const n) w = SpellsSigned 32 n w
Immediate (Open.I64Const n) w = SpellsSigned 64 n w
Immediate (Open.F32Const bits) w = SpellsBits 4 bits w
Immediate (Open.F64Const bits) w = SpellsBits 8 bits w
Immediate (Open.RefNull t) w = SpellsRefType t w
Immediate (Open.Prefixed op x y) w = Joined (SpellsUnsigned 32 op) (SpellsSecond op x y) w

-- the opcode of an instruction
abbrev pub opcode_of : Open.Instr-F Instr Expr → ℕ
opcode_of (Open.Plain op) = op
opcode_of (Open.Index op n) = op
opcode_of (Open.Block t e) = 0x02
opcode_of (Open.Loop t e) = 0x03
opcode_of (Open.If t e other) = 0x04
opcode_of (Open.BrTable ls last) = 0x0E
opcode_of (Open.CallIndirect ty table) = 0x11
opcode_of (Open.Select ts) = 0x1C
opcode_of (Open.Access op align offset) = op
opcode_of Open.MemorySize = 0x3F
opcode_of Open.MemoryGrow = 0x40
opcode_of (Open.I32Const n) = 0x41
opcode_of (Open.I64Const n) = 0x42
opcode_of (Open.F32Const bits) = 0x43
opcode_of (Open.F64Const bits) = 0x44
opcode_of (Open.RefNull t) = 0xD0
opcode_of (Open.Prefixed op x y) = 0xFC

-- an opcode, and what follows it
pub record IsCoded (i : Instr) (w : List ℕ) : Type 0 where
  pub opcode : ℕ
  pub known : opcode ≡ opcode_of (out-Instr i)
  pub after : List ℕ
  pub parts : w ≡ opcode ∷ after
  pub immediate : Immediate (out-Instr i) after

module _ {i : Instr} (b : ℕ) (v : List ℕ) (x : Open.Instr-F Instr Expr) (e : out-Instr i ≡ x) (k : b ≡ opcode_of x) (s : Immediate x v) where
  coded : IsCoded i (b ∷ v)
  coded = record { opcode = b; known = k ∙ ap opcode_of (sym e); after = v; parts = refl; immediate = subst (λ y. Immediate y v) (sym e) s }

pub body_joined : {t : BlockType} {e : Expr} (w v : List ℕ) → SpellsBlockType t w → SpellsInstrs e.list v → IsBody t e (w ++ (v ++ 0x0B ∷ []))
body_joined w v s r = joined _ _ s (joined _ _ r refl)

pub bodies_joined : {t : BlockType} {e other : Expr} (w v u : List ℕ) → SpellsBlockType t w → SpellsInstrs e.list v → SpellsInstrs other.list u
    → IsBodies t e other (w ++ (v ++ 0x05 ∷ u ++ 0x0B ∷ []))
bodies_joined {t} {e} {other} w v u s r q =
    subst (λ x. IsBodies t e other (w ++ x)) (sym (append_assoc v (0x05 ∷ u) (0x0B ∷ []))) (joined _ _ s (joined _ _ r (behind 0x05 _ (joined _ _ q refl))))

pub is_coded : {i : Instr} {w : List ℕ} → SpellsInstr i w → IsCoded i w
is_coded (plain {b} o) = coded b [] (Open.Plain b) (ap out-Instr (sym (rolls-Plain b)) ∙ out-roll-Instr (Open.Plain b)) refl refl
is_coded (index {b} {n} {w} o s) = coded b w (Open.Index b n) (ap out-Instr (sym (rolls-Index b n)) ∙ out-roll-Instr (Open.Index b n)) refl s
is_coded (block {b} {t} {e} {w} {v} o s r) =
    coded b (w ++ (v ++ 0x0B ∷ [])) (Open.Block t e) (ap out-Instr (sym (rolls-Block t e)) ∙ out-roll-Instr (Open.Block t e)) (opcode_is b BlockBody o) (body_joined w v s r)
is_coded (loop {b} {t} {e} {w} {v} o s r) = coded b (w ++ (v ++ 0x0B ∷ [])) (Open.Loop t e) (ap out-Instr (sym (rolls-Loop t e)) ∙ out-roll-Instr (Open.Loop t e)) (opcode_is b LoopBody o) (body_joined w v s r)
is_coded (if_alone {b} {t} {e} {w} {v} o s r) =
    coded b (w ++ (v ++ 0x0B ∷ [])) (Open.If t e None) (ap out-Instr (sym (rolls-If t e None)) ∙ out-roll-Instr (Open.If t e None)) (opcode_is b IfBodies o) (body_joined w v s r)
is_coded (if_else {b} {t} {e} {other} {w} {v} {u} o s r q) =
    coded b (w ++ (v ++ 0x05 ∷ u ++ 0x0B ∷ [])) (Open.If t e (Some other)) (ap out-Instr (sym (rolls-If t e (Some other))) ∙ out-roll-Instr (Open.If t e (Some other))) (opcode_is b IfBodies o)
    (bodies_joined w v u s r q)
is_coded (labels {b} {last} {ls} {w} {v} o s r) = coded b (w ++ v) (Open.BrTable ls last) (ap out-Instr (sym (rolls-BrTable ls last)) ∙ out-roll-Instr (Open.BrTable ls last)) (opcode_is b Labels o) (joined _ _ s r)
is_coded (type_and_table {b} {ty} {table} {w} {v} o s r) =
    coded b (w ++ v) (Open.CallIndirect ty table) (ap out-Instr (sym (rolls-CallIndirect ty table)) ∙ out-roll-Instr (Open.CallIndirect ty table)) (opcode_is b TypeAndTable o) (joined _ _ s r)
is_coded (value_types {b} {ts} {w} o s) = coded b w (Open.Select ts) (ap out-Instr (sym (rolls-Select ts)) ∙ out-roll-Instr (Open.Select ts)) (opcode_is b ValueTypes o) s
is_coded (ref_type {b} {t} {w} o s) = coded b w (Open.RefNull t) (ap out-Instr (sym (rolls-RefNull t)) ∙ out-roll-Instr (Open.RefNull t)) (opcode_is b OneRefType o) s
is_coded (memory_argument {b} {align} {offset} {w} {v} o s r) =
    coded b (w ++ v) (Open.Access b align offset) (ap out-Instr (sym (rolls-Access b align offset)) ∙ out-roll-Instr (Open.Access b align offset)) refl (joined _ _ s r)
is_coded (memory_size {b} o) = coded b (0x00 ∷ []) Open.MemorySize (ap out-Instr (sym rolls-MemorySize) ∙ out-roll-Instr Open.MemorySize) (opcode_is b MemorySizeByte o) refl
is_coded (memory_grow {b} o) = coded b (0x00 ∷ []) Open.MemoryGrow (ap out-Instr (sym rolls-MemoryGrow) ∙ out-roll-Instr Open.MemoryGrow) (opcode_is b MemoryGrowByte o) refl
is_coded (i32_const {b} {n} {w} o s) = coded b w (Open.I32Const n) (ap out-Instr (sym (rolls-I32Const n)) ∙ out-roll-Instr (Open.I32Const n)) (opcode_is b OneI32 o) s
is_coded (i64_const {b} {n} {w} o s) = coded b w (Open.I64Const n) (ap out-Instr (sym (rolls-I64Const n)) ∙ out-roll-Instr (Open.I64Const n)) (opcode_is b OneI64 o) s
is_coded (f32_const {b} {bits} {w} o s) = coded b w (Open.F32Const bits) (ap out-Instr (sym (rolls-F32Const bits)) ∙ out-roll-Instr (Open.F32Const bits)) (opcode_is b OneF32 o) s
is_coded (f64_const {b} {bits} {w} o s) = coded b w (Open.F64Const bits) (ap out-Instr (sym (rolls-F64Const bits)) ∙ out-roll-Instr (Open.F64Const bits)) (opcode_is b OneF64 o) s
is_coded (second {b} {op} {x} {y} {w} {v} o s r) =
    coded b (w ++ v) (Open.Prefixed op x y) (ap out-Instr (sym (rolls-Prefixed op x y)) ∙ out-roll-Instr (Open.Prefixed op x y)) (opcode_is b SecondOpcode o) (joined _ _ s r)

-- an instruction from its opcode and what follows it
module _ (i : Instr) (x : Open.Instr-F Instr Expr) (out : out-Instr i ≡ x) (b : ℕ) where
  coded_least : {other : List ℕ} → SpellsInstr i other → AtMost (Joined (IsByte b) (Immediate x)) other
  coded_least s =
      let parts = is_coded s in
      (b ∷ parts.after, behind b _ (subst (λ y. Immediate y parts.after) out parts.immediate), omega (arith, ap length parts.parts))

  form_written : (j : Instr) (old new : List ℕ) → j ≡ i → ((w : List ℕ) → Immediate x w → SpellsInstr i (b ∷ w)) → Appends (IsShortest (Joined (IsByte b) (Immediate x))) old new
      → Appends (IsShortest (SpellsInstr j)) old new
  form_written j old new is make written =
      subst (λ k. Appends (IsShortest (SpellsInstr k)) old new) (sym is) (coded_written b old new make (λ other s. coded_least s) written)

-- what follows the opcode of a block, made from its parts
pub body_made : {i : Instr} {t : BlockType} {e : Expr} (b : ℕ) → ((w v : List ℕ) → SpellsBlockType t w → SpellsInstrs e.list v → SpellsInstr i (b ∷ w ++ (v ++ 0x0B ∷ []))) → (u : List ℕ) → IsBody t e u
    → SpellsInstr i (b ∷ u)
body_made {i} b make =
    unjoined (λ u. SpellsInstr i (b ∷ u)) (λ w x s. unjoined (λ u. SpellsInstr i (b ∷ (w ++ u))) (λ v end r e. subst (λ z. SpellsInstr i (b ∷ (w ++ (v ++ z)))) (sym e) (make w v s r)) x)

pub bodies_made : (b : ℕ) → operands b ≡ IfBodies → (t : BlockType) (e other : Expr) (u : List ℕ) → IsBodies t e other u → SpellsInstr (If t e (Some other)) (b ∷ u)
bodies_made b o t e other u p =
    let second = p.rest in
    let third = second.rest in
    let fourth = third.rest in
    let whole : SpellsInstr (If t e (Some other)) (b ∷ p.before ++ (second.before ++ 0x05 ∷ fourth.before ++ 0x0B ∷ [])) = if_else o p.first second.first fourth.first in
    let same : (second.before ++ 0x05 ∷ fourth.before) ++ 0x0B ∷ [] ≡ p.after =
    append_assoc second.before (0x05 ∷ fourth.before) (0x0B ∷ []) ∙ ap (λ z. second.before ++ (0x05 ∷ (fourth.before ++ z))) (sym fourth.rest) ∙ ap (λ z. second.before ++ (0x05 ∷ z)) (sym fourth.parts)
    ∙ ap (λ z. second.before ++ (z ++ third.after)) (sym third.first) ∙ ap (λ z. second.before ++ z) (sym third.parts) ∙ sym second.parts
    in
    subst (λ z. SpellsInstr (If t e (Some other)) (b ∷ z)) (ap (λ z. p.before ++ z) same ∙ sym p.parts) whole

-- the forms, one by one
module _ (j : Instr) (old new : List ℕ) where
  pub plain_written : (op : ℕ) → j ≡ Plain op → operands op ≡ NoOperand → new ≡ old ++ op ∷ [] → Appends (IsShortest (SpellsInstr j)) old new
  plain_written op is o e =
      form_written (Plain op) (Open.Plain op) (ap out-Instr (sym (rolls-Plain op)) ∙ out-roll-Instr (Open.Plain op)) op j old new is (λ w p. subst (λ v. SpellsInstr (Plain op) (op ∷ v)) (sym p) (plain o))
      (op ∷ [], record { spelled = behind op [] refl; least = λ other p. omega (arith, ap length p.parts, ap length p.first, length-append p.before p.after) }, e)

  pub index_written : (op n : ℕ) → j ≡ Index op n → operands op ≡ OneIndex → Appends (IsShortest (Joined (IsByte op) (SpellsUnsigned 32 n))) old new → Appends (IsShortest (SpellsInstr j)) old new
  index_written op n is o = form_written (Index op n) (Open.Index op n) (ap out-Instr (sym (rolls-Index op n)) ∙ out-roll-Instr (Open.Index op n)) op j old new is (λ w p. index o p)

  pub access_written : (op align offset : ℕ) → j ≡ Access op align offset → operands op ≡ MemoryArgument
      → Appends (IsShortest (Joined (IsByte op) (Joined (SpellsUnsigned 32 align) (SpellsUnsigned 32 offset)))) old new → Appends (IsShortest (SpellsInstr j)) old new
  access_written op align offset is o =
      form_written (Access op align offset) (Open.Access op align offset) (ap out-Instr (sym (rolls-Access op align offset)) ∙ out-roll-Instr (Open.Access op align offset)) op j old new is
      (unjoined (λ u. SpellsInstr (Access op align offset) (op ∷ u)) (λ w v p q. memory_argument o p q))

  pub block_written : (t : BlockType) (e : Expr) → j ≡ Block t e → Appends (IsShortest (Joined (IsByte 0x02) (IsBody t e))) old new → Appends (IsShortest (SpellsInstr j)) old new
  unfolding control_operands
  block_written t e is =
      form_written (Block t e) (Open.Block t e) (ap out-Instr (sym (rolls-Block t e)) ∙ out-roll-Instr (Open.Block t e)) 0x02 j old new is (body_made {t = t} {e = e} 0x02 (λ w v s r. block refl s r))

  pub loop_written : (t : BlockType) (e : Expr) → j ≡ Loop t e → Appends (IsShortest (Joined (IsByte 0x03) (IsBody t e))) old new → Appends (IsShortest (SpellsInstr j)) old new
  unfolding control_operands
  loop_written t e is =
      form_written (Loop t e) (Open.Loop t e) (ap out-Instr (sym (rolls-Loop t e)) ∙ out-roll-Instr (Open.Loop t e)) 0x03 j old new is (body_made {t = t} {e = e} 0x03 (λ w v s r. loop refl s r))

  pub if_written : (t : BlockType) (e : Expr) → j ≡ If t e None → Appends (IsShortest (Joined (IsByte 0x04) (IsBody t e))) old new → Appends (IsShortest (SpellsInstr j)) old new
  unfolding control_operands
  if_written t e is =
      form_written (If t e None) (Open.If t e None) (ap out-Instr (sym (rolls-If t e None)) ∙ out-roll-Instr (Open.If t e None)) 0x04 j old new is
      (body_made {t = t} {e = e} 0x04 (λ w v s r. if_alone refl s r))

  pub else_written : (t : BlockType) (e other : Expr) → j ≡ If t e (Some other) → Appends (IsShortest (Joined (IsByte 0x04) (IsBodies t e other))) old new → Appends (IsShortest (SpellsInstr j)) old new
  unfolding control_operands
  else_written t e other is =
      form_written (If t e (Some other)) (Open.If t e (Some other)) (ap out-Instr (sym (rolls-If t e (Some other))) ∙ out-roll-Instr (Open.If t e (Some other))) 0x04 j old new is (bodies_made 0x04 refl t e other)

  pub labels_written : (ls : List ℕ) (last : ℕ) → j ≡ BrTable ls last → Appends (IsShortest (Joined (IsByte 0x0E) (Joined (SpellsVec (SpellsUnsigned 32) ls) (SpellsUnsigned 32 last)))) old new
      → Appends (IsShortest (SpellsInstr j)) old new
  unfolding control_operands
  labels_written ls last is =
      form_written (BrTable ls last) (Open.BrTable ls last) (ap out-Instr (sym (rolls-BrTable ls last)) ∙ out-roll-Instr (Open.BrTable ls last)) 0x0E j old new is
      (unjoined (λ u. SpellsInstr (BrTable ls last) (0x0E ∷ u)) (λ w v p q. labels refl p q))

  pub indirect_written : (ty table : ℕ) → j ≡ CallIndirect ty table → Appends (IsShortest (Joined (IsByte 0x11) (Joined (SpellsUnsigned 32 ty) (SpellsUnsigned 32 table)))) old new
      → Appends (IsShortest (SpellsInstr j)) old new
  unfolding control_operands
  indirect_written ty table is =
      form_written (CallIndirect ty table) (Open.CallIndirect ty table) (ap out-Instr (sym (rolls-CallIndirect ty table)) ∙ out-roll-Instr (Open.CallIndirect ty table)) 0x11 j old new is
      (unjoined (λ u. SpellsInstr (CallIndirect ty table) (0x11 ∷ u)) (λ w v p q. type_and_table refl p q))

  pub select_written : (ts : List ValType) → j ≡ Select ts → Appends (IsShortest (Joined (IsByte 0x1C) (SpellsVec SpellsValType ts))) old new → Appends (IsShortest (SpellsInstr j)) old new
  unfolding control_operands
  select_written ts is =
      form_written (Select ts) (Open.Select ts) (ap out-Instr (sym (rolls-Select ts)) ∙ out-roll-Instr (Open.Select ts)) 0x1C j old new is (λ w p. value_types refl p)

  pub size_written : j ≡ MemorySize → Appends (IsShortest (Joined (IsByte 0x3F) (IsByte 0x00))) old new → Appends (IsShortest (SpellsInstr j)) old new
  unfolding access_operands
  size_written is =
      form_written MemorySize Open.MemorySize (ap out-Instr (sym rolls-MemorySize) ∙ out-roll-Instr Open.MemorySize) 0x3F j old new is
      (λ w p. subst (λ v. SpellsInstr MemorySize (0x3F ∷ v)) (sym p) (memory_size refl))

  pub grow_written : j ≡ MemoryGrow → Appends (IsShortest (Joined (IsByte 0x40) (IsByte 0x00))) old new → Appends (IsShortest (SpellsInstr j)) old new
  unfolding access_operands
  grow_written is =
      form_written MemoryGrow Open.MemoryGrow (ap out-Instr (sym rolls-MemoryGrow) ∙ out-roll-Instr Open.MemoryGrow) 0x40 j old new is
      (λ w p. subst (λ v. SpellsInstr MemoryGrow (0x40 ∷ v)) (sym p) (memory_grow refl))

  pub i32_written : (n : ℤ) → j ≡ I32Const n → Appends (IsShortest (Joined (IsByte 0x41) (SpellsSigned 32 n))) old new → Appends (IsShortest (SpellsInstr j)) old new
  unfolding access_operands
  i32_written n is = form_written (I32Const n) (Open.I32Const n) (ap out-Instr (sym (rolls-I32Const n)) ∙ out-roll-Instr (Open.I32Const n)) 0x41 j old new is (λ w p. i32_const refl p)

  pub i64_written : (n : ℤ) → j ≡ I64Const n → Appends (IsShortest (Joined (IsByte 0x42) (SpellsSigned 64 n))) old new → Appends (IsShortest (SpellsInstr j)) old new
  unfolding access_operands
  i64_written n is = form_written (I64Const n) (Open.I64Const n) (ap out-Instr (sym (rolls-I64Const n)) ∙ out-roll-Instr (Open.I64Const n)) 0x42 j old new is (λ w p. i64_const refl p)

  pub f32_written : (bits : ℕ) → j ≡ F32Const bits → Appends (IsShortest (Joined (IsByte 0x43) (SpellsBits 4 bits))) old new → Appends (IsShortest (SpellsInstr j)) old new
  unfolding access_operands
  f32_written bits is = form_written (F32Const bits) (Open.F32Const bits) (ap out-Instr (sym (rolls-F32Const bits)) ∙ out-roll-Instr (Open.F32Const bits)) 0x43 j old new is (λ w p. f32_const refl p)

  pub f64_written : (bits : ℕ) → j ≡ F64Const bits → Appends (IsShortest (Joined (IsByte 0x44) (SpellsBits 8 bits))) old new → Appends (IsShortest (SpellsInstr j)) old new
  unfolding access_operands
  f64_written bits is = form_written (F64Const bits) (Open.F64Const bits) (ap out-Instr (sym (rolls-F64Const bits)) ∙ out-roll-Instr (Open.F64Const bits)) 0x44 j old new is (λ w p. f64_const refl p)

  pub null_written : (t : ValType) → j ≡ RefNull t → Appends (IsShortest (Joined (IsByte 0xD0) (SpellsRefType t))) old new → Appends (IsShortest (SpellsInstr j)) old new
  unfolding reference_operands
  null_written t is = form_written (RefNull t) (Open.RefNull t) (ap out-Instr (sym (rolls-RefNull t)) ∙ out-roll-Instr (Open.RefNull t)) 0xD0 j old new is (λ w p. ref_type refl p)

  pub prefixed_written : (op x y : ℕ) → j ≡ Prefixed op x y → Appends (IsShortest (Joined (IsByte 0xFC) (Joined (SpellsUnsigned 32 op) (SpellsSecond op x y)))) old new
      → Appends (IsShortest (SpellsInstr j)) old new
  unfolding reference_operands
  prefixed_written op x y is =
      form_written (Prefixed op x y) (Open.Prefixed op x y) (ap out-Instr (sym (rolls-Prefixed op x y)) ∙ out-roll-Instr (Open.Prefixed op x y)) 0xFC j old new is
      (unjoined (λ u. SpellsInstr (Prefixed op x y) (0xFC ∷ u)) (λ w v p q. second refl p q))

-- what a block writes
pub body_written : (b : ℕ) (t : BlockType) (e : Expr) (old start first inside new : List ℕ) → start ≡ old ++ b ∷ [] → Appends (IsShortest (SpellsBlockType t)) start first
    → Appends (IsShortest (SpellsInstrs e.list)) first inside → new ≡ inside ++ 0x0B ∷ [] → Appends (IsShortest (Joined (IsByte b) (IsBody t e))) old new
body_written b t e old start first inside new a p q end =
    appends_joined old start new (appends_byte old start b a) (appends_joined start first new p (appends_joined first inside new q (appends_byte inside new 0x0B end)))

pub bodies_written : (t : BlockType) (e other : Expr) (old start first inside third fourth new : List ℕ) → start ≡ old ++ 0x04 ∷ [] → Appends (IsShortest (SpellsBlockType t)) start first
    → Appends (IsShortest (SpellsInstrs e.list)) first inside → third ≡ inside ++ 0x05 ∷ [] → Appends (IsShortest (SpellsInstrs other.list)) third fourth → new ≡ fourth ++ 0x0B ∷ []
    → Appends (IsShortest (Joined (IsByte 0x04) (IsBodies t e other))) old new
bodies_written t e other old start first inside third fourth new a p q b r end =
    appends_joined old start new (appends_byte old start 0x04 a)
    (appends_joined start first new p (appends_joined first inside new q (appends_joined inside third new (appends_byte inside third 0x05 b) (appends_joined third fourth new r (appends_byte fourth new 0x0B end)))))

-- instructions one after the other
pub each_of_instrs : {is : List Instr} {w : List ℕ} → SpellsInstrs is w → SpellsEach SpellsInstr is w
each_of_instrs done = none
each_of_instrs (next s rest) = each_next s (each_of_instrs rest)

pub instrs_of_each : {is : List Instr} {w : List ℕ} → SpellsEach SpellsInstr is w → SpellsInstrs is w
instrs_of_each none = done
instrs_of_each (each_next s rest) = next s (instrs_of_each rest)

pub instrs_written : (is : List Instr) (old new : List ℕ) → Appends (IsShortest (SpellsEach SpellsInstr is)) old new → Appends (IsShortest (SpellsInstrs is)) old new
instrs_written is old new = appends_like old new (λ w s. instrs_of_each s) (λ other s. itself other (each_of_instrs s))

pub expr_parts : {e : Expr} {w : List ℕ} → SpellsExpr e w → Joined (SpellsInstrs e.list) (IsByte 0x0B) w
expr_parts (expr s) = joined _ _ s refl

pub expr_written : (e : Expr) (old middle new : List ℕ) → Appends (IsShortest (SpellsInstrs e.list)) old middle → new ≡ middle ++ 0x0B ∷ [] → Appends (IsShortest (SpellsExpr e)) old new
expr_written e old middle new each end =
    appends_like old new (unjoined (SpellsExpr e) (λ w v s is. subst (λ t. SpellsExpr e (w ++ t)) (sym is) (expr s))) (λ other s. itself other (expr_parts s))
    (appends_joined old middle new each (appends_byte middle new 0x0B end))

-- block types
pub block_type_empty : {w : List ℕ} → SpellsBlockType Empty w → IsByte 0x40 w
block_type_empty empty = refl

pub block_type_value : {t : ValType} {w : List ℕ} → SpellsBlockType (Value t) w → SpellsValType t w
block_type_value (value s) = s

pub block_type_index : {n : ℕ} {w : List ℕ} → SpellsBlockType (TypeIndex n) w → SpellsSigned 33 (pos n) w
block_type_index (type_index s) = s

module _ (t : BlockType) (old new : List ℕ) where
  pub no_type_written : t ≡ Empty → new ≡ old ++ 0x40 ∷ [] → Appends (IsShortest (SpellsBlockType t)) old new
  no_type_written is e =
      subst (λ u. Appends (IsShortest (SpellsBlockType u)) old new) (sym is)
      (appends_like old new (λ w p. subst (SpellsBlockType Empty) (sym p) empty) (λ other s. itself other (block_type_empty s)) (appends_byte old new 0x40 e))

  pub value_type_written : (v : ValType) → t ≡ Value v → Appends (IsShortest (SpellsValType v)) old new → Appends (IsShortest (SpellsBlockType t)) old new
  value_type_written v is written =
      subst (λ u. Appends (IsShortest (SpellsBlockType u)) old new) (sym is) (appends_like old new (λ w p. value p) (λ other s. itself other (block_type_value s)) written)

  pub type_index_written : (n : ℕ) → t ≡ TypeIndex n → Appends (IsShortest (SpellsSigned 33 (pos n))) old new → Appends (IsShortest (SpellsBlockType t)) old new
  type_index_written n is written =
      subst (λ u. Appends (IsShortest (SpellsBlockType u)) old new) (sym is) (appends_like old new (λ w p. type_index p) (λ other s. itself other (block_type_index s)) written)

regrouped : {op x y : ℕ} (w : List ℕ) → Joined (IsByte 0xFC) (Joined (SpellsUnsigned 32 op) (SpellsSecond op x y)) w → Joined (Joined (IsByte 0xFC) (SpellsUnsigned 32 op)) (SpellsSecond op x y) w
regrouped {op} {x} {y} =
    after_byte (Joined (Joined (IsByte 0xFC) (SpellsUnsigned 32 op)) (SpellsSecond op x y))
    (unjoined (λ u. Joined (Joined (IsByte 0xFC) (SpellsUnsigned 32 op)) (SpellsSecond op x y) (0xFC ∷ u)) (λ u v s q. joined (0xFC ∷ u) v (behind 0xFC u s) q))

pub prefixed_joined : (op x y : ℕ) (old middle new : List ℕ) → Appends (IsShortest (Joined (IsByte 0xFC) (SpellsUnsigned 32 op))) old middle → Appends (IsShortest (SpellsSecond op x y)) middle new
    → Appends (IsShortest (Joined (IsByte 0xFC) (Joined (SpellsUnsigned 32 op) (SpellsSecond op x y)))) old new
prefixed_joined op x y old middle new a b =
    appends_like old new
    (unjoined (Joined (IsByte 0xFC) (Joined (SpellsUnsigned 32 op) (SpellsSecond op x y))) (λ w v p q. after_byte (λ u. Joined (IsByte 0xFC) (Joined (SpellsUnsigned 32 op) (SpellsSecond op x y)) (u ++ v)) (λ u s. behind 0xFC (u ++ v) (joined u v s q)) w p))
    (λ other s. itself other (regrouped other s))
    (appends_joined old middle new a b)
