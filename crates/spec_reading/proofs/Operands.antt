-- What follows an opcode is read as it is spelled, where no instructions are inside.
use Rattle.std.proofs.Common.{◌≡◌, ℕ, ℤ, ◌≤◌, List, [], ◌∷◌, ◌++◌, Ok, refl, sym, ap, subst, ◌∙◌, append_assoc, arith}
use Rattle.spec_binary.specs.wasm_form.declared.types.ValType.{ValType}
use Rattle.spec_binary.specs.wasm_form.declared.instr.Instr.{Instr, Index, BrTable, CallIndirect, Select, Access, MemorySize, MemoryGrow, I32Const, I64Const, F32Const, F64Const, RefNull, Prefixed}
use Rattle.spec_binary.specs.Number.{SpellsUnsigned, SpellsSigned}
use Rattle.spec_binary.specs.Sequence.{SpellsVec}
use Rattle.spec_binary.specs.Types.{SpellsRefType, SpellsValType}
use Rattle.spec_binary.specs.Operands.{OneIndex, Labels, TypeAndTable, ValueTypes, OneRefType, MemoryArgument, MemorySizeByte, MemoryGrowByte, OneI32, OneI64, OneF32, OneF64, SecondOpcode, operands, SecondOperands, NoNumber, OneNumber, TwoNumbers, NumberAndZero, OneZero, TwoZeros, NoSecondOpcode, second_operands}
use Rattle.spec_binary.specs.Instructions.{SpellsBits, SpellsSecond, no_number, one_number, two_numbers, number_and_zero, one_zero, two_zeros, SpellsInstr, index, labels, type_and_table, value_types, ref_type, memory_argument, memory_size, memory_grow, i32_const, i64_const, f32_const, f64_const, second}
use Rattle.spec_binary.specs.Trees.{nesting}
use Rattle.spec_reading.specs.Steps.{Break}
use Rattle.spec_reading.specs.Values.{number_at, signed_at, bits_at, byte_at, vec_at}
use Rattle.spec_reading.specs.Types.{val_type_at, ref_type_at}
use Rattle.spec_reading.specs.Instructions.{second_at, prefixed_at, index_at, labels_at, type_and_table_at, value_types_at, ref_null_at, memory_argument_at, memory_size_at, memory_grow_at, i32_const_at, i64_const_at, f32_const_at, f64_const_at}
use Rattle.spec_reading.proofs.Steps.{bind_ok, ok_is, Plainly, plain_ok, plain_broken, plain_bind, Takes, is_plain, one_complete, two_complete, one_sound, two_sound, one_plain, two_plain}
use Rattle.spec_reading.proofs.Values.{number_complete, number_sound, number_plain, signed_complete, signed_sound, signed_plain, bits_complete, bits_sound, bits_plain, IsByte, byte_complete, byte_taken, byte_plain}
use Rattle.spec_reading.proofs.Vectors.{vec_complete, vec_sound, vec_plain}
use Rattle.spec_reading.proofs.Types.{val_type_complete, val_type_sound, val_type_plain, ref_type_complete, ref_type_sound, ref_type_plain}
use Rattle.spec_reading.proofs.Trees.{nesting-Index, nesting-BrTable, nesting-CallIndirect, nesting-Select, nesting-Access, nesting-MemorySize, nesting-MemoryGrow, nesting-I32Const, nesting-I64Const, nesting-F32Const, nesting-F64Const, nesting-RefNull, nesting-Prefixed}

-- what is spelled so is read

pub index_again : (b n : ℕ) (w : List ℕ) → SpellsUnsigned 32 n w → (rest : List ℕ) → index_at b (w ++ rest) ≡ Ok (Index b n, rest)
unfolding index_at
index_again b n w s rest = one_complete (SpellsUnsigned 32) (number_at 32) (number_complete 32) (Index b) n w s rest

pub labels_again : (ls : List ℕ) (last : ℕ) (w v : List ℕ) → SpellsVec (SpellsUnsigned 32) ls w → SpellsUnsigned 32 last v → (rest : List ℕ)
    → labels_at ((w ++ v) ++ rest) ≡ Ok (BrTable ls last, rest)
unfolding labels_at
labels_again ls last w v s t rest =
    two_complete (SpellsVec (SpellsUnsigned 32)) (SpellsUnsigned 32) (vec_at (number_at 32)) (number_at 32) (vec_complete (SpellsUnsigned 32) (number_at 32) (number_complete 32)) (number_complete 32) BrTable ls last w v s t rest

pub type_and_table_again : (ty table : ℕ) (w v : List ℕ) → SpellsUnsigned 32 ty w → SpellsUnsigned 32 table v → (rest : List ℕ)
    → type_and_table_at ((w ++ v) ++ rest) ≡ Ok (CallIndirect ty table, rest)
unfolding type_and_table_at
type_and_table_again ty table w v s t rest =
    two_complete (SpellsUnsigned 32) (SpellsUnsigned 32) (number_at 32) (number_at 32) (number_complete 32) (number_complete 32) CallIndirect ty table w v s t rest

pub value_types_again : (ts : List ValType) (w : List ℕ) → SpellsVec SpellsValType ts w → (rest : List ℕ) → value_types_at (w ++ rest) ≡ Ok (Select ts, rest)
unfolding value_types_at
value_types_again ts w s rest = one_complete (SpellsVec SpellsValType) (vec_at val_type_at) (vec_complete SpellsValType val_type_at val_type_complete) Select ts w s rest

pub ref_null_again : (t : ValType) (w : List ℕ) → SpellsRefType t w → (rest : List ℕ) → ref_null_at (w ++ rest) ≡ Ok (RefNull t, rest)
unfolding ref_null_at
ref_null_again t w s rest = one_complete SpellsRefType ref_type_at ref_type_complete RefNull t w s rest

pub memory_argument_again : (b align offset : ℕ) (w v : List ℕ) → SpellsUnsigned 32 align w → SpellsUnsigned 32 offset v → (rest : List ℕ)
    → memory_argument_at b ((w ++ v) ++ rest) ≡ Ok (Access b align offset, rest)
unfolding memory_argument_at
memory_argument_again b align offset w v s t rest =
    two_complete (SpellsUnsigned 32) (SpellsUnsigned 32) (number_at 32) (number_at 32) (number_complete 32) (number_complete 32) (Access b) align offset w v s t rest

pub memory_size_again : (rest : List ℕ) → memory_size_at (0x00 ∷ rest) ≡ Ok (MemorySize, rest)
unfolding memory_size_at
memory_size_again rest = one_complete (IsByte 0x00) (byte_at 0x00) (byte_complete 0x00) (λ (_ : Unit {0}). MemorySize) tt (0x00 ∷ []) refl rest

pub memory_grow_again : (rest : List ℕ) → memory_grow_at (0x00 ∷ rest) ≡ Ok (MemoryGrow, rest)
unfolding memory_grow_at
memory_grow_again rest = one_complete (IsByte 0x00) (byte_at 0x00) (byte_complete 0x00) (λ (_ : Unit {0}). MemoryGrow) tt (0x00 ∷ []) refl rest

pub i32_const_again : (n : ℤ) (w : List ℕ) → SpellsSigned 32 n w → (rest : List ℕ) → i32_const_at (w ++ rest) ≡ Ok (I32Const n, rest)
unfolding i32_const_at
i32_const_again n w s rest = one_complete (SpellsSigned 32) (signed_at 32) (signed_complete 32) I32Const n w s rest

pub i64_const_again : (n : ℤ) (w : List ℕ) → SpellsSigned 64 n w → (rest : List ℕ) → i64_const_at (w ++ rest) ≡ Ok (I64Const n, rest)
unfolding i64_const_at
i64_const_again n w s rest = one_complete (SpellsSigned 64) (signed_at 64) (signed_complete 64) I64Const n w s rest

pub f32_const_again : (bits : ℕ) (w : List ℕ) → SpellsBits 4 bits w → (rest : List ℕ) → f32_const_at (w ++ rest) ≡ Ok (F32Const bits, rest)
unfolding f32_const_at
f32_const_again bits w s rest = one_complete (SpellsBits 4) (bits_at 4) (bits_complete 4) F32Const bits w s rest

pub f64_const_again : (bits : ℕ) (w : List ℕ) → SpellsBits 8 bits w → (rest : List ℕ) → f64_const_at (w ++ rest) ≡ Ok (F64Const bits, rest)
unfolding f64_const_at
f64_const_again bits w s rest = one_complete (SpellsBits 8) (bits_at 8) (bits_complete 8) F64Const bits w s rest

second_again : {op x y : ℕ} {w : List ℕ} → SpellsSecond op x y w → (rest : List ℕ) → second_at (second_operands op) op (w ++ rest) ≡ Ok (Prefixed op x y, rest)
second_again (no_number {op} e) rest = ap (λ o. second_at o op rest) e
second_again (one_number {op} {a} {w} e s) rest =
    ap (λ o. second_at o op (w ++ rest)) e ∙ one_complete (SpellsUnsigned 32) (number_at 32) (number_complete 32) (λ x. Prefixed op x 0) a w s rest
second_again (two_numbers {op} {a} {b} {w} {v} e s t) rest =
    ap (λ o. second_at o op ((w ++ v) ++ rest)) e
    ∙ two_complete (SpellsUnsigned 32) (SpellsUnsigned 32) (number_at 32) (number_at 32) (number_complete 32) (number_complete 32) (Prefixed op) a b w v s t rest
second_again (number_and_zero {op} {a} {w} e s) rest =
    ap (λ o. second_at o op ((w ++ 0x00 ∷ []) ++ rest)) e
    ∙ two_complete (SpellsUnsigned 32) (IsByte 0x00) (number_at 32) (byte_at 0x00) (number_complete 32) (byte_complete 0x00) (λ x _. Prefixed op x 0) a tt w (0x00 ∷ []) s refl rest
second_again (one_zero {op} e) rest =
    ap (λ o. second_at o op (0x00 ∷ rest)) e ∙ one_complete (IsByte 0x00) (byte_at 0x00) (byte_complete 0x00) (λ (_ : Unit {0}). Prefixed op 0 0) tt (0x00 ∷ []) refl rest
second_again (two_zeros {op} e) rest =
    ap (λ o. second_at o op (0x00 ∷ 0x00 ∷ rest)) e
    ∙ two_complete (IsByte 0x00) (IsByte 0x00) (byte_at 0x00) (byte_at 0x00) (byte_complete 0x00) (byte_complete 0x00) (λ (_ _ : Unit {0}). Prefixed op 0 0) tt tt (0x00 ∷ []) (0x00 ∷ []) refl refl rest

pub prefixed_again : (op x y : ℕ) (w v : List ℕ) → SpellsUnsigned 32 op w → SpellsSecond op x y v → (rest : List ℕ) → prefixed_at ((w ++ v) ++ rest) ≡ Ok (Prefixed op x y, rest)
unfolding prefixed_at
prefixed_again op x y w v s t rest = rw (append_assoc w v rest, number_complete 32 op w s (v ++ rest)) (second_again t rest)

-- what is read is spelled so

-- an instruction at the front of a text, in which at most d blocks are nested
pub record TakesInstr (d : ℕ) (text : List ℕ) (i : Instr) (rest : List ℕ) : Type 0 where
  pub takes : Takes SpellsInstr text i rest
  pub within : nesting i ≤ d

-- an instruction without blocks
pub flat_taken : (d b : ℕ) (text word : List ℕ) (j i : Instr) (rest : List ℕ) → nesting j ≡ 0 → SpellsInstr j (b ∷ word) → text ≡ word ++ rest → j ≡ i → TakesInstr d (b ∷ text) i rest
flat_taken d b text word j i rest flat s e same = record {
  takes = record { word = b ∷ word; spelled = subst (λ i. SpellsInstr i (b ∷ word)) same s; parts = ap (λ l. b ∷ l) e };
  within = subst (λ i. nesting i ≤ d) same (omega arith);
}

module _ (d b : ℕ) (text : List ℕ) (i : Instr) (rest : List ℕ) where
  pub index_taken : operands b ≡ OneIndex → index_at b text ≡ Ok (i, rest) → TakesInstr d (b ∷ text) i rest
  unfolding index_at
  index_taken o e =
      let t = one_sound (SpellsUnsigned 32) (number_at 32) (number_sound 32) (Index b) text i rest e in
      flat_taken d b text t.word (Index b t.first) i rest (nesting-Index b t.first) (index o t.spelled) t.parts t.is

  pub labels_taken : operands b ≡ Labels → labels_at text ≡ Ok (i, rest) → TakesInstr d (b ∷ text) i rest
  unfolding labels_at
  labels_taken o e =
      let t = two_sound (SpellsVec (SpellsUnsigned 32)) (SpellsUnsigned 32) (vec_at (number_at 32)) (number_at 32) (vec_sound (SpellsUnsigned 32) (number_at 32) (number_sound 32)) (number_sound 32) BrTable text i rest e in
      flat_taken d b text (t.word ++ t.end) (BrTable t.first t.second) i rest (nesting-BrTable t.first t.second) (labels o t.spelled t.after) t.parts t.is

  pub type_and_table_taken : operands b ≡ TypeAndTable → type_and_table_at text ≡ Ok (i, rest) → TakesInstr d (b ∷ text) i rest
  unfolding type_and_table_at
  type_and_table_taken o e =
      let t = two_sound (SpellsUnsigned 32) (SpellsUnsigned 32) (number_at 32) (number_at 32) (number_sound 32) (number_sound 32) CallIndirect text i rest e in
      flat_taken d b text (t.word ++ t.end) (CallIndirect t.first t.second) i rest (nesting-CallIndirect t.first t.second) (type_and_table o t.spelled t.after) t.parts t.is

  pub value_types_taken : operands b ≡ ValueTypes → value_types_at text ≡ Ok (i, rest) → TakesInstr d (b ∷ text) i rest
  unfolding value_types_at
  value_types_taken o e =
      let t = one_sound (SpellsVec SpellsValType) (vec_at val_type_at) (vec_sound SpellsValType val_type_at val_type_sound) Select text i rest e in
      flat_taken d b text t.word (Select t.first) i rest (nesting-Select t.first) (value_types o t.spelled) t.parts t.is

  pub ref_null_taken : operands b ≡ OneRefType → ref_null_at text ≡ Ok (i, rest) → TakesInstr d (b ∷ text) i rest
  unfolding ref_null_at
  ref_null_taken o e =
      let t = one_sound SpellsRefType ref_type_at ref_type_sound RefNull text i rest e in
      flat_taken d b text t.word (RefNull t.first) i rest (nesting-RefNull t.first) (ref_type o t.spelled) t.parts t.is

  pub memory_argument_taken : operands b ≡ MemoryArgument → memory_argument_at b text ≡ Ok (i, rest) → TakesInstr d (b ∷ text) i rest
  unfolding memory_argument_at
  memory_argument_taken o e =
      let t = two_sound (SpellsUnsigned 32) (SpellsUnsigned 32) (number_at 32) (number_at 32) (number_sound 32) (number_sound 32) (Access b) text i rest e in
      flat_taken d b text (t.word ++ t.end) (Access b t.first t.second) i rest (nesting-Access b t.first t.second) (memory_argument o t.spelled t.after) t.parts t.is

  pub memory_size_taken : operands b ≡ MemorySizeByte → memory_size_at text ≡ Ok (i, rest) → TakesInstr d (b ∷ text) i rest
  unfolding memory_size_at
  memory_size_taken o e =
      let t = one_sound (IsByte 0x00) (byte_at 0x00) (byte_taken 0x00) (λ (_ : Unit {0}). MemorySize) text i rest e in
      flat_taken d b text (0x00 ∷ []) MemorySize i rest nesting-MemorySize (memory_size o) (t.parts ∙ ap (λ l. l ++ rest) t.spelled) t.is

  pub memory_grow_taken : operands b ≡ MemoryGrowByte → memory_grow_at text ≡ Ok (i, rest) → TakesInstr d (b ∷ text) i rest
  unfolding memory_grow_at
  memory_grow_taken o e =
      let t = one_sound (IsByte 0x00) (byte_at 0x00) (byte_taken 0x00) (λ (_ : Unit {0}). MemoryGrow) text i rest e in
      flat_taken d b text (0x00 ∷ []) MemoryGrow i rest nesting-MemoryGrow (memory_grow o) (t.parts ∙ ap (λ l. l ++ rest) t.spelled) t.is

  pub i32_const_taken : operands b ≡ OneI32 → i32_const_at text ≡ Ok (i, rest) → TakesInstr d (b ∷ text) i rest
  unfolding i32_const_at
  i32_const_taken o e =
      let t = one_sound (SpellsSigned 32) (signed_at 32) (signed_sound 32) I32Const text i rest e in
      flat_taken d b text t.word (I32Const t.first) i rest (nesting-I32Const t.first) (i32_const o t.spelled) t.parts t.is

  pub i64_const_taken : operands b ≡ OneI64 → i64_const_at text ≡ Ok (i, rest) → TakesInstr d (b ∷ text) i rest
  unfolding i64_const_at
  i64_const_taken o e =
      let t = one_sound (SpellsSigned 64) (signed_at 64) (signed_sound 64) I64Const text i rest e in
      flat_taken d b text t.word (I64Const t.first) i rest (nesting-I64Const t.first) (i64_const o t.spelled) t.parts t.is

  pub f32_const_taken : operands b ≡ OneF32 → f32_const_at text ≡ Ok (i, rest) → TakesInstr d (b ∷ text) i rest
  unfolding f32_const_at
  f32_const_taken o e =
      let t = one_sound (SpellsBits 4) (bits_at 4) (bits_sound 4) F32Const text i rest e in
      flat_taken d b text t.word (F32Const t.first) i rest (nesting-F32Const t.first) (f32_const o t.spelled) t.parts t.is

  pub f64_const_taken : operands b ≡ OneF64 → f64_const_at text ≡ Ok (i, rest) → TakesInstr d (b ∷ text) i rest
  unfolding f64_const_at
  f64_const_taken o e =
      let t = one_sound (SpellsBits 8) (bits_at 8) (bits_sound 8) F64Const text i rest e in
      flat_taken d b text t.word (F64Const t.first) i rest (nesting-F64Const t.first) (f64_const o t.spelled) t.parts t.is

-- what a second opcode gave
record TakesSecond (op : ℕ) (text : List ℕ) (i : Instr) (rest : List ℕ) : Type 0 where
  first : ℕ
  other : ℕ
  word : List ℕ
  spelled : SpellsSecond op first other word
  parts : text ≡ word ++ rest
  is : Prefixed op first other ≡ i

second_sound : (op : ℕ) (o : SecondOperands) → second_operands op ≡ o → (text : List ℕ) (i : Instr) (rest : List ℕ) → second_at o op text ≡ Ok (i, rest) → TakesSecond op text i rest
second_sound op NoNumber o text i rest e =
    let same = ok_is Break _ _ e in
    record { first = 0; other = 0; word = []; spelled = no_number o; parts = ap (λ (p : Instr × List ℕ). p.1) same; is = ap (λ (p : Instr × List ℕ). p.0) same }
second_sound op OneNumber o text i rest e =
    let t = one_sound (SpellsUnsigned 32) (number_at 32) (number_sound 32) (λ x. Prefixed op x 0) text i rest e in
    record { first = t.first; other = 0; word = t.word; spelled = one_number o t.spelled; parts = t.parts; is = t.is }
second_sound op TwoNumbers o text i rest e =
    let t = two_sound (SpellsUnsigned 32) (SpellsUnsigned 32) (number_at 32) (number_at 32) (number_sound 32) (number_sound 32) (Prefixed op) text i rest e in
    record { first = t.first; other = t.second; word = t.word ++ t.end; spelled = two_numbers o t.spelled t.after; parts = t.parts; is = t.is }
second_sound op NumberAndZero o text i rest e =
    let t = two_sound (SpellsUnsigned 32) (IsByte 0x00) (number_at 32) (byte_at 0x00) (number_sound 32) (byte_taken 0x00) (λ x _. Prefixed op x 0) text i rest e in
    record { first = t.first; other = 0; word = t.word ++ 0x00 ∷ []; spelled = number_and_zero o t.spelled; parts = t.parts ∙ ap (λ l. (t.word ++ l) ++ rest) t.after; is = t.is }
second_sound op OneZero o text i rest e =
    let t = one_sound (IsByte 0x00) (byte_at 0x00) (byte_taken 0x00) (λ (_ : Unit {0}). Prefixed op 0 0) text i rest e in
    record { first = 0; other = 0; word = 0x00 ∷ []; spelled = one_zero o; parts = t.parts ∙ ap (λ l. l ++ rest) t.spelled; is = t.is }
second_sound op TwoZeros o text i rest e =
    let t = two_sound (IsByte 0x00) (IsByte 0x00) (byte_at 0x00) (byte_at 0x00) (byte_taken 0x00) (byte_taken 0x00) (λ (_ _ : Unit {0}). Prefixed op 0 0) text i rest e in
    record { first = 0; other = 0; word = 0x00 ∷ 0x00 ∷ []; spelled = two_zeros o; parts = t.parts ∙ ap (λ l. (l ++ t.end) ++ rest) t.spelled ∙ ap (λ l. 0x00 ∷ l ++ rest) t.after; is = t.is }
second_sound op NoSecondOpcode o text i rest e = absurd cc

pub prefixed_taken : (d b : ℕ) (text : List ℕ) (i : Instr) (rest : List ℕ) → operands b ≡ SecondOpcode → prefixed_at text ≡ Ok (i, rest) → TakesInstr d (b ∷ text) i rest
unfolding prefixed_at
prefixed_taken d b text i rest o e =
    let a = bind_ok (number_at 32 text) _ (i, rest) e in
    let n = number_sound 32 text a.0.0 a.0.1 a.1 in
    let t = second_sound a.0.0 (second_operands a.0.0) refl a.0.1 i rest a.2 in
    flat_taken d b text (n.word ++ t.word) (Prefixed a.0.0 t.first t.other) i rest (nesting-Prefixed a.0.0 t.first t.other) (second o n.spelled t.spelled)
    (n.parts ∙ ap (λ l. n.word ++ l) t.parts ∙ sym (append_assoc n.word t.word rest)) t.is

-- reading them passes no limit

module _ (text : List ℕ) where
  pub index_plain : (b : ℕ) → Plainly (index_at b text)
  unfolding index_at
  index_plain b = one_plain (number_at 32) (number_plain 32) (Index b) text

  pub labels_plain : Plainly (labels_at text)
  unfolding labels_at
  labels_plain = two_plain (vec_at (number_at 32)) (vec_plain (number_at 32) (number_plain 32)) (number_at 32) (number_plain 32) BrTable text

  pub type_and_table_plain : Plainly (type_and_table_at text)
  unfolding type_and_table_at
  type_and_table_plain = two_plain (number_at 32) (number_plain 32) (number_at 32) (number_plain 32) CallIndirect text

  pub value_types_plain : Plainly (value_types_at text)
  unfolding value_types_at
  value_types_plain = one_plain (vec_at val_type_at) (vec_plain val_type_at val_type_plain) Select text

  pub ref_null_plain : Plainly (ref_null_at text)
  unfolding ref_null_at
  ref_null_plain = one_plain ref_type_at ref_type_plain RefNull text

  pub memory_argument_plain : (b : ℕ) → Plainly (memory_argument_at b text)
  unfolding memory_argument_at
  memory_argument_plain b = two_plain (number_at 32) (number_plain 32) (number_at 32) (number_plain 32) (Access b) text

  pub memory_size_plain : Plainly (memory_size_at text)
  unfolding memory_size_at
  memory_size_plain = one_plain (byte_at 0x00) (byte_plain 0x00) (λ (_ : Unit {0}). MemorySize) text

  pub memory_grow_plain : Plainly (memory_grow_at text)
  unfolding memory_grow_at
  memory_grow_plain = one_plain (byte_at 0x00) (byte_plain 0x00) (λ (_ : Unit {0}). MemoryGrow) text

  pub i32_const_plain : Plainly (i32_const_at text)
  unfolding i32_const_at
  i32_const_plain = one_plain (signed_at 32) (signed_plain 32) I32Const text

  pub i64_const_plain : Plainly (i64_const_at text)
  unfolding i64_const_at
  i64_const_plain = one_plain (signed_at 64) (signed_plain 64) I64Const text

  pub f32_const_plain : Plainly (f32_const_at text)
  unfolding f32_const_at
  f32_const_plain = one_plain (bits_at 4) (bits_plain 4) F32Const text

  pub f64_const_plain : Plainly (f64_const_at text)
  unfolding f64_const_at
  f64_const_plain = one_plain (bits_at 8) (bits_plain 8) F64Const text

second_breaks : (o : SecondOperands) (op : ℕ) (text : List ℕ) → Plainly (second_at o op text)
second_breaks NoNumber op text = plain_ok _
second_breaks OneNumber op text = one_plain (number_at 32) (number_plain 32) (λ x. Prefixed op x 0) text
second_breaks TwoNumbers op text = two_plain (number_at 32) (number_plain 32) (number_at 32) (number_plain 32) (Prefixed op) text
second_breaks NumberAndZero op text = two_plain (number_at 32) (number_plain 32) (byte_at 0x00) (byte_plain 0x00) (λ x _. Prefixed op x 0) text
second_breaks OneZero op text = one_plain (byte_at 0x00) (byte_plain 0x00) (λ (_ : Unit {0}). Prefixed op 0 0) text
second_breaks TwoZeros op text = two_plain (byte_at 0x00) (byte_plain 0x00) (byte_at 0x00) (byte_plain 0x00) (λ (_ _ : Unit {0}). Prefixed op 0 0) text
second_breaks NoSecondOpcode op text = plain_broken

pub prefixed_plain : (text : List ℕ) → Plainly (prefixed_at text)
unfolding prefixed_at
prefixed_plain text = plain_bind (number_at 32 text) _ (is_plain (number_at 32) (number_plain 32) text) (λ op. second_breaks (second_operands op.0) op.0 op.1)
