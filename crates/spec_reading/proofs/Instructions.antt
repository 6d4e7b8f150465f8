-- Instructions that are spelled are read, where enough blocks may be nested.
use Rattle.std.proofs.Common.{◌≡◌, ℕ, zero, suc, max, ◌<◌, ◌≤◌, Bool, true, false, eqb, List, [], ◌∷◌, ◌++◌, length, Some, None, Ok, refl, ap, ◌∙◌, append_assoc, arith, inl, inr, length-append}
use Rattle.std.proofs.lemmas.Bool.{eqb-true, or_cases}
use Rattle.spec_binary.specs.wasm_form.declared.instr.BlockType.{BlockType}
use Rattle.spec_binary.specs.wasm_form.declared.instr.Instr.{Instr, Plain, Index, Block, Loop, If, BrTable, CallIndirect, Select, Access, MemorySize, MemoryGrow, I32Const, I64Const, F32Const, F64Const, RefNull, Prefixed}
use Rattle.spec_binary.specs.wasm_form.declared.instr.Expr.{Expr}
use Rattle.spec_binary.specs.Operands.{Operands, NoOperand, OneIndex, BlockBody, LoopBody, IfBodies, Labels, TypeAndTable, ValueTypes, OneRefType, MemoryArgument, MemorySizeByte, MemoryGrowByte, OneI32, OneI64, OneF32, OneF64, SecondOpcode, NoOpcode, operands, control_operands}
use Rattle.spec_binary.specs.Instructions.{SpellsBlockType, SpellsInstr, plain, index, block, loop, if_alone, if_else, labels, type_and_table, value_types, ref_type, memory_argument, memory_size, memory_grow, i32_const, i64_const, f32_const, f64_const, second, SpellsInstrs, done, next, SpellsExpr, expr}
use Rattle.spec_binary.specs.Trees.{nesting, nesting_all}
use Rattle.spec_reading.specs.Steps.{◌>>=◌}
use Rattle.spec_reading.specs.Instructions.{Inner, expr_of, body_at, arms_at, if_at, operands_at, instr_at, ends, instrs_at, expr_within, expr_at}
use Rattle.spec_reading.proofs.Steps.{got}
use Rattle.spec_reading.proofs.Values.{byte_again}
use Rattle.spec_reading.proofs.BlockTypes.{block_type_again}
use Rattle.spec_reading.proofs.Operands.{index_again, labels_again, type_and_table_again, value_types_again, ref_null_again, memory_argument_again, memory_size_again, memory_grow_again, i32_const_again, i64_const_again, f32_const_again, f64_const_again, prefixed_again}
use Rattle.spec_reading.proofs.Trees.{nesting-Block, nesting-Loop, nesting-If-alone, nesting-If-else}

-- a byte that ends instructions is no opcode

abbrev is_none : Operands → Bool
is_none NoOpcode = true
is_none _ = false

else_is_none : is_none (operands 0x05) ≡ true
unfolding control_operands
else_is_none = refl

end_is_none : is_none (operands 0x0B) ≡ true
unfolding control_operands
end_is_none = refl

end_has_none : (b : ℕ) → ends b ≡ true → is_none (operands b) ≡ true
end_has_none b e = elim (or_cases (eqb b 0x05) (eqb b 0x0B) e) [
  | inl h ↦ ap (λ b. is_none (operands b)) (eqb-true b 0x05 h) ∙ else_is_none
  | inr h ↦ ap (λ b. is_none (operands b)) (eqb-true b 0x0B h) ∙ end_is_none
]

pub begins : (b : ℕ) (o : Operands) → operands b ≡ o → is_none o ≡ false → ends b ≡ false
begins b o e h = elim (ends b) as (λ t. ends b ≡ t → t ≡ false) [
  | true ↦ λ end. absurd (let none = end_has_none b end in let some = ap is_none e in cc)
  | false ↦ λ _. refl
] refl

-- an instruction's bytes begin with one that ends no instructions, and what follows it is read
pub record Reads (i : Instr) (w : List ℕ) : Type 0 where
  pub head : ℕ
  pub tail : List ℕ
  pub parts : w ≡ head ∷ tail
  pub starts : ends head ≡ false
  pub reads : (d : ℕ) → nesting i ≤ d → (k : ℕ) → length tail < k → (rest : List ℕ) → instr_at (instrs_at k) d head (tail ++ rest) ≡ Ok (i, rest)

flat : (b : ℕ) (o : Operands) (i : Instr) (w : List ℕ) → operands b ≡ o → is_none o ≡ false → ((inner : Inner) (d : ℕ) (rest : List ℕ) → operands_at inner d o b (w ++ rest) ≡ Ok (i, rest)) → Reads i (b ∷ w)
flat b o i w e some reads = record {
  head = b;
  tail = w;
  parts = refl;
  starts = begins b o e some;
  reads = λ d within k lt rest. ap (λ o. operands_at (instrs_at k) d o b (w ++ rest)) e ∙ reads (instrs_at k) d rest;
}

-- how instructions inside are read
pub record ReadsAll (is : List Instr) (w : List ℕ) : Type 0 where
  pub reads_all : (d : ℕ) → nesting_all is ≤ d → (z : ℕ) (rest : List ℕ) → ends z ≡ true → (k : ℕ) → length w < k → instrs_at k d (w ++ z ∷ rest) ≡ Ok (is, z ∷ rest)

regroup : (a b c x : List ℕ) → (a ++ (b ++ c)) ++ x ≡ a ++ (b ++ (c ++ x))
regroup a b c x = simp append_assoc

regroup_arms : (a b c x : List ℕ) → (a ++ (b ++ 0x05 ∷ c ++ 0x0B ∷ [])) ++ x ≡ a ++ (b ++ 0x05 ∷ (c ++ 0x0B ∷ x))
regroup_arms a b c x = simp append_assoc

shorter : (a b c : List ℕ) (k : ℕ) → length (a ++ (b ++ c)) < k → length b < k
shorter a b c k h = omega (arith, length-append a (b ++ c), length-append b c)

shorter_first : (a b c x : List ℕ) (k : ℕ) → length (a ++ (b ++ 0x05 ∷ c ++ x)) < k → length b < k
shorter_first a b c x k h = omega (arith, length-append a (b ++ 0x05 ∷ c ++ x), length-append (b ++ 0x05 ∷ c) x, length-append b (0x05 ∷ c))

shorter_second : (a b c x : List ℕ) (k : ℕ) → length (a ++ (b ++ 0x05 ∷ c ++ x)) < k → length c < k
shorter_second a b c x k h = omega (arith, length-append a (b ++ 0x05 ∷ c ++ x), length-append (b ++ 0x05 ∷ c) x, length-append b (0x05 ∷ c))

body_again : (make : BlockType → Expr → Instr) (t : BlockType) (e : Expr) (w v : List ℕ) → SpellsBlockType t w → ReadsAll e.list v → (n d : ℕ) → n ≡ suc (nesting_all e.list) → n ≤ d
    → (k : ℕ) → length (w ++ (v ++ 0x0B ∷ [])) < k → (rest : List ℕ) → body_at (instrs_at k) d make ((w ++ (v ++ 0x0B ∷ [])) ++ rest) ≡ Ok (make t e, rest)
unfolding body_at
body_again make t e w v ty s n zero same within k lt rest = absurd (omega arith)
body_again make t e w v ty s n (suc d) same within k lt rest =
    let room : nesting_all e.list ≤ d = omega arith in
    rw (regroup w v (0x0B ∷ []) rest, block_type_again ty (v ++ 0x0B ∷ rest), s.reads_all d room 0x0B rest refl k (shorter w v (0x0B ∷ []) k lt), byte_again 0x0B rest) refl

if_again : (t : BlockType) (e : Expr) (w v : List ℕ) → SpellsBlockType t w → ReadsAll e.list v → (n d : ℕ) → n ≡ suc (nesting_all e.list) → n ≤ d
    → (k : ℕ) → length (w ++ (v ++ 0x0B ∷ [])) < k → (rest : List ℕ) → if_at (instrs_at k) d ((w ++ (v ++ 0x0B ∷ [])) ++ rest) ≡ Ok (If t e None, rest)
unfolding if_at arms_at
if_again t e w v ty s n zero same within k lt rest = absurd (omega arith)
if_again t e w v ty s n (suc d) same within k lt rest =
    let room : nesting_all e.list ≤ d = omega arith in
    rw (regroup w v (0x0B ∷ []) rest, block_type_again ty (v ++ 0x0B ∷ rest), s.reads_all d room 0x0B rest refl k (shorter w v (0x0B ∷ []) k lt)) refl

else_again : (t : BlockType) (is : List Instr) (e : Expr) (u : List ℕ) → ReadsAll e.list u → (d : ℕ) → nesting_all e.list ≤ d → (k : ℕ) → length u < k → (rest : List ℕ)
    → arms_at (instrs_at k) d t is (0x05 ∷ (u ++ 0x0B ∷ rest)) ≡ Ok (If t (expr_of is) (Some e), rest)
unfolding arms_at
else_again t is e u s d room k lt rest = rw (s.reads_all d room 0x0B rest refl k lt, byte_again 0x0B rest) refl

if_else_again : (t : BlockType) (e other : Expr) (w v u : List ℕ) → SpellsBlockType t w → ReadsAll e.list v → ReadsAll other.list u → (n d : ℕ)
    → n ≡ suc (max (nesting_all e.list) (nesting_all other.list)) → n ≤ d → (k : ℕ) → length (w ++ (v ++ 0x05 ∷ u ++ 0x0B ∷ [])) < k → (rest : List ℕ)
    → if_at (instrs_at k) d ((w ++ (v ++ 0x05 ∷ u ++ 0x0B ∷ [])) ++ rest) ≡ Ok (If t e (Some other), rest)
unfolding if_at
if_else_again t e other w v u ty s r n zero same within k lt rest = absurd (omega arith)
if_else_again t e other w v u ty s r n (suc d) same within k lt rest =
    let room : nesting_all e.list ≤ d = omega arith in
    let room_else : nesting_all other.list ≤ d = omega arith in
    let short : length v < k = shorter_first w v u (0x0B ∷ []) k lt in
    rw (regroup_arms w v u rest, block_type_again ty (v ++ 0x05 ∷ (u ++ 0x0B ∷ rest)), s.reads_all d room 0x05 (u ++ 0x0B ∷ rest) refl k short)
    (else_again t e.list other u r d room_else k (shorter_second w v u (0x0B ∷ []) k lt) rest)

block_reads : (b : ℕ) (t : BlockType) (e : Expr) (w v : List ℕ) → operands b ≡ BlockBody → SpellsBlockType t w → ReadsAll e.list v → Reads (Block t e) (b ∷ w ++ (v ++ 0x0B ∷ []))
block_reads b t e w v o ty s = record {
  head = b;
  tail = w ++ (v ++ 0x0B ∷ []);
  parts = refl;
  starts = begins b BlockBody o refl;
  reads = λ d within k lt rest.
      ap (λ o. operands_at (instrs_at k) d o b ((w ++ (v ++ 0x0B ∷ [])) ++ rest)) o
      ∙ body_again Block t e w v ty s (nesting (Block t e)) d (nesting-Block t e) within k lt rest;
}

loop_reads : (b : ℕ) (t : BlockType) (e : Expr) (w v : List ℕ) → operands b ≡ LoopBody → SpellsBlockType t w → ReadsAll e.list v → Reads (Loop t e) (b ∷ w ++ (v ++ 0x0B ∷ []))
loop_reads b t e w v o ty s = record {
  head = b;
  tail = w ++ (v ++ 0x0B ∷ []);
  parts = refl;
  starts = begins b LoopBody o refl;
  reads = λ d within k lt rest.
      ap (λ o. operands_at (instrs_at k) d o b ((w ++ (v ++ 0x0B ∷ [])) ++ rest)) o
      ∙ body_again Loop t e w v ty s (nesting (Loop t e)) d (nesting-Loop t e) within k lt rest;
}

if_reads : (b : ℕ) (t : BlockType) (e : Expr) (w v : List ℕ) → operands b ≡ IfBodies → SpellsBlockType t w → ReadsAll e.list v → Reads (If t e None) (b ∷ w ++ (v ++ 0x0B ∷ []))
if_reads b t e w v o ty s = record {
  head = b;
  tail = w ++ (v ++ 0x0B ∷ []);
  parts = refl;
  starts = begins b IfBodies o refl;
  reads = λ d within k lt rest.
      ap (λ o. operands_at (instrs_at k) d o b ((w ++ (v ++ 0x0B ∷ [])) ++ rest)) o
      ∙ if_again t e w v ty s (nesting (If t e None)) d (nesting-If-alone t e) within k lt rest;
}

if_else_reads : (b : ℕ) (t : BlockType) (e other : Expr) (w v u : List ℕ) → operands b ≡ IfBodies → SpellsBlockType t w → ReadsAll e.list v → ReadsAll other.list u
    → Reads (If t e (Some other)) (b ∷ w ++ (v ++ 0x05 ∷ u ++ 0x0B ∷ []))
if_else_reads b t e other w v u o ty s r = record {
  head = b;
  tail = w ++ (v ++ 0x05 ∷ u ++ 0x0B ∷ []);
  parts = refl;
  starts = begins b IfBodies o refl;
  reads = λ d within k lt rest.
      ap (λ o. operands_at (instrs_at k) d o b ((w ++ (v ++ 0x05 ∷ u ++ 0x0B ∷ [])) ++ rest)) o
      ∙ if_else_again t e other w v u ty s r (nesting (If t e (Some other))) d (nesting-If-else t e other) within k lt rest;
}

-- the bytes of an instruction and of those after it, regrouped
pub opened : (w v x : List ℕ) (head : ℕ) (tail : List ℕ) → w ≡ head ∷ tail → (w ++ v) ++ x ≡ head ∷ (tail ++ (v ++ x))
opened w v x head tail e = rw e (ap (λ l. head ∷ l) (append_assoc tail v x))

-- one instruction, and those after it
pub one_turn : (d k head : ℕ) (tail text : List ℕ) (i : Instr) → ends head ≡ false → instr_at (instrs_at k) d head (tail ++ text) ≡ Ok (i, text)
    → instrs_at (suc k) d (head ∷ (tail ++ text)) ≡ (instrs_at k d text >>= λ is. got (i ∷ is.0) is.1)
unfolding instrs_at
one_turn d k head tail text i starts e = rw (starts, e) refl

nothing_more : (d z : ℕ) (rest : List ℕ) (k : ℕ) → ends z ≡ true → 0 < k → instrs_at k d (z ∷ rest) ≡ Ok ([], z ∷ rest)
unfolding instrs_at
nothing_more d z rest zero e lt = absurd (omega arith)
nothing_more d z rest (suc k) e lt = rw e refl

no_instrs : ReadsAll [] []
no_instrs = record { reads_all = λ d within z rest e k lt. nothing_more d z rest k e lt }

-- what follows the opcode is shorter, and so are the instructions after this one
pub fewer : (w v : List ℕ) (head k : ℕ) (tail : List ℕ) → w ≡ head ∷ tail → length (w ++ v) < suc k → (length tail < k) × (length v < k)
fewer w v head k tail e h = let one = ap length e in (omega (arith, length-append w v), omega (arith, length-append w v))

more_read : (i : Instr) (is : List Instr) (w v : List ℕ) → Reads i w → ReadsAll is v → (d : ℕ) → max (nesting i) (nesting_all is) ≤ d → (z : ℕ) (rest : List ℕ) → ends z ≡ true
    → (k : ℕ) → length (w ++ v) < k → instrs_at k d ((w ++ v) ++ z ∷ rest) ≡ Ok (i ∷ is, z ∷ rest)
more_read i is w v r s d within z rest e zero lt = absurd (omega arith)
more_read i is w v r s d within z rest e (suc k) lt =
    let short = fewer w v r.head k r.tail r.parts lt in
    let here : nesting i ≤ d = omega arith in
    let later : nesting_all is ≤ d = omega arith in
    ap (instrs_at (suc k) d) (opened w v (z ∷ rest) r.head r.tail r.parts)
    ∙ one_turn d k r.head r.tail (v ++ z ∷ rest) i r.starts (r.reads d here k short.0 (v ++ z ∷ rest))
    ∙ rw (s.reads_all d later z rest e k short.1) refl

one_more : (i : Instr) (is : List Instr) (w v : List ℕ) → Reads i w → ReadsAll is v → ReadsAll (i ∷ is) (w ++ v)
one_more i is w v r s = record { reads_all = more_read i is w v r s }

mutual
  pub instr_reads : {i : Instr} {w : List ℕ} → SpellsInstr i w → Reads i w
  instr_reads (plain {b} o) = flat b NoOperand (Plain b) [] o refl (λ inner d rest. refl)
  instr_reads (index {b} {n} {w} o s) = flat b OneIndex (Index b n) w o refl (λ inner d rest. index_again b n w s rest)
  instr_reads (block {b} {t} {e} {w} {v} o ty s) = block_reads b t e w v o ty (instrs_read s)
  instr_reads (loop {b} {t} {e} {w} {v} o ty s) = loop_reads b t e w v o ty (instrs_read s)
  instr_reads (if_alone {b} {t} {e} {w} {v} o ty s) = if_reads b t e w v o ty (instrs_read s)
  instr_reads (if_else {b} {t} {e} {other} {w} {v} {u} o ty s r) = if_else_reads b t e other w v u o ty (instrs_read s) (instrs_read r)
  instr_reads (labels {b} {last} {ls} {w} {v} o s t) = flat b Labels (BrTable ls last) (w ++ v) o refl (λ inner d rest. labels_again ls last w v s t rest)
  instr_reads (type_and_table {b} {ty} {table} {w} {v} o s t) = flat b TypeAndTable (CallIndirect ty table) (w ++ v) o refl (λ inner d rest. type_and_table_again ty table w v s t rest)
  instr_reads (value_types {b} {ts} {w} o s) = flat b ValueTypes (Select ts) w o refl (λ inner d rest. value_types_again ts w s rest)
  instr_reads (ref_type {b} {t} {w} o s) = flat b OneRefType (RefNull t) w o refl (λ inner d rest. ref_null_again t w s rest)
  instr_reads (memory_argument {b} {align} {offset} {w} {v} o s t) =
      flat b MemoryArgument (Access b align offset) (w ++ v) o refl (λ inner d rest. memory_argument_again b align offset w v s t rest)
  instr_reads (memory_size {b} o) = flat b MemorySizeByte MemorySize (0x00 ∷ []) o refl (λ inner d rest. memory_size_again rest)
  instr_reads (memory_grow {b} o) = flat b MemoryGrowByte MemoryGrow (0x00 ∷ []) o refl (λ inner d rest. memory_grow_again rest)
  instr_reads (i32_const {b} {n} {w} o s) = flat b OneI32 (I32Const n) w o refl (λ inner d rest. i32_const_again n w s rest)
  instr_reads (i64_const {b} {n} {w} o s) = flat b OneI64 (I64Const n) w o refl (λ inner d rest. i64_const_again n w s rest)
  instr_reads (f32_const {b} {bits} {w} o s) = flat b OneF32 (F32Const bits) w o refl (λ inner d rest. f32_const_again bits w s rest)
  instr_reads (f64_const {b} {bits} {w} o s) = flat b OneF64 (F64Const bits) w o refl (λ inner d rest. f64_const_again bits w s rest)
  instr_reads (second {b} {op} {x} {y} {w} {v} o s t) = flat b SecondOpcode (Prefixed op x y) (w ++ v) o refl (λ inner d rest. prefixed_again op x y w v s t rest)

  pub instrs_read : {is : List Instr} {w : List ℕ} → SpellsInstrs is w → ReadsAll is w
  instrs_read done = no_instrs
  instrs_read (next {i} {is} {w} {v} p q) = one_more i is w v (instr_reads p) (instrs_read q)

pub instrs_again : {is : List Instr} {w : List ℕ} → SpellsInstrs is w → (d : ℕ) → nesting_all is ≤ d → (z : ℕ) (rest : List ℕ) → ends z ≡ true → (k : ℕ) → length w < k
    → instrs_at k d (w ++ z ∷ rest) ≡ Ok (is, z ∷ rest)
instrs_again s d within z rest e k lt = (instrs_read s).reads_all d within z rest e k lt

expr_read : (e : Expr) (w : List ℕ) → SpellsInstrs e.list w → (d : ℕ) → nesting_all e.list ≤ d → (rest : List ℕ) (k : ℕ) → length w < k → expr_within k d (w ++ 0x0B ∷ rest) ≡ Ok (e, rest)
unfolding expr_within
expr_read e w s d within rest k lt = rw (instrs_again s d within 0x0B rest refl k lt, byte_again 0x0B rest) refl

pub expr_again : {e : Expr} {w : List ℕ} → SpellsExpr e w → (d : ℕ) → nesting_all e.list ≤ d → (rest : List ℕ) → expr_at d (w ++ rest) ≡ Ok (e, rest)
expr_again (expr {e} {w} s) d within rest =
    let enough : length w < suc (length (w ++ 0x0B ∷ rest)) = omega (arith, length-append w (0x0B ∷ rest)) in
    rw (append_assoc w (0x0B ∷ []) rest) (expr_read e w s d within rest (suc (length (w ++ 0x0B ∷ rest))) enough)

pub expr_complete : (d : ℕ) (e : Expr) (w : List ℕ) → SpellsExpr e w → nesting_all e.list ≤ d → (rest : List ℕ) → expr_at d (w ++ rest) ≡ Ok (e, rest)
expr_complete d e w s within rest = expr_again s d within rest
