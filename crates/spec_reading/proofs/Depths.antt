-- Reading instructions gets too deep exactly where the format says so, and passes no other limit.
use Rattle.std.proofs.Common.{◌≡◌, ℕ, zero, suc, ◌-◌, ◌<◌, ◌≤◌, Bool, true, false, cond, eqb, List, [], ◌∷◌, ◌++◌, length, Some, Result, Ok, Err, refl, sym, ap, subst, ◌∙◌, append_assoc, arith, inl, inr, length-append}
use Rattle.std.specs.Prelude.{◌⊎◌, IsTrue}
use Rattle.std.proofs.lemmas.Bool.{eqb-true}
use Rattle.spec_binary.specs.wasm_form.declared.instr.BlockType.{BlockType}
use Rattle.spec_binary.specs.wasm_form.declared.instr.Instr.{Instr, Block, Loop, If}
use Rattle.spec_binary.specs.wasm_form.declared.instr.Expr.{Expr}
use Rattle.spec_binary.specs.Operands.{Operands, NoOperand, OneIndex, BlockBody, LoopBody, IfBodies, Labels, TypeAndTable, ValueTypes, OneRefType, MemoryArgument, MemorySizeByte, MemoryGrowByte, OneI32, OneI64, OneF32, OneF64, SecondOpcode, NoOpcode, operands, opens_block}
use Rattle.spec_binary.specs.Instructions.{SpellsBlockType, SpellsInstr, SpellsInstrs, done, next}
use Rattle.spec_binary.specs.Trees.{nesting, nesting_all}
use Rattle.spec_binary.specs.DecodeAnswers.{IsTooDeep, GetsTooDeep, opens, inside, in_else, after}
use Rattle.spec_reading.specs.Steps.{Break, Broken, TooDeep, TooManyLocals, ◌>>=◌, Read}
use Rattle.spec_reading.specs.Values.{byte_at}
use Rattle.spec_reading.specs.Instructions.{Inner, expr_of, block_type_at, body_at, else_at, arms_at, if_at, operands_at, instr_at, ends, instrs_at, expr_within, expr_at}
use Rattle.spec_reading.proofs.Steps.{got, Plainly, is_plain}
use Rattle.spec_reading.proofs.Values.{byte_plain}
use Rattle.spec_reading.proofs.BlockTypes.{block_type_again, block_type_sound, block_type_plain}
use Rattle.spec_reading.proofs.Operands.{TakesInstr, index_plain, labels_plain, type_and_table_plain, value_types_plain, ref_null_plain, memory_argument_plain, memory_size_plain, memory_grow_plain, i32_const_plain, i64_const_plain, f32_const_plain, f64_const_plain, prefixed_plain}
use Rattle.spec_reading.proofs.Instructions.{begins, instr_reads, instrs_again, opened, one_turn}
use Rattle.spec_reading.proofs.InstructionsFound.{FindsSpelled, instr_taken, instrs_found}

-- where reading breaks, the format does, or it is too deep
pub data Why (Deep : Type 0) : Break → Type 0 where
  broken : Why Deep Broken
  deep : Deep → Why Deep TooDeep

pub record BreaksWhere {A : Type 0} (Deep : Type 0) (r : Result A Break) : Type 0 where
  pub why : (e : Break) → r ≡ Err e → Why Deep e

at_break : {Deep : Type 0} (d e : Break) → d ≡ e → Why Deep d → Why Deep e
at_break {Deep} d e h w = subst (Why Deep) h w

module _ {A : Type 0} (Deep : Type 0) where
  where_ok : (x : A) → BreaksWhere Deep (Ok x)
  where_ok x = record { why = λ e h. absurd cc }

  abbrev fails : Break → Result A Break
  fails e = Err e

  same_break : (d e : Break) → fails d ≡ fails e → d ≡ e
  same_break d e h = cc

  where_broken : BreaksWhere {A = A} Deep (Err Broken)
  where_broken = record { why = λ e h. at_break Broken e (same_break Broken e h) broken }

  where_deep : Deep → BreaksWhere {A = A} Deep (Err TooDeep)
  where_deep x = record { why = λ e h. at_break TooDeep e (same_break TooDeep e h) (deep x) }

  where_plain : (r : Result A Break) → Plainly r → BreaksWhere Deep r
  where_plain r p = record { why = λ e h. at_break Broken e (sym (p.broken e h)) broken }

  where_choice : (b : Bool) (x y : Result A Break) → (b ≡ true → BreaksWhere Deep x) → (b ≡ false → BreaksWhere Deep y) → BreaksWhere Deep (cond b x y)
  where_choice true x y p q = p refl
  where_choice false x y p q = q refl

  where_bind : {B : Type 0} (r : Result A Break) (f : A → Result B Break) → BreaksWhere Deep r → ((x : A) → r ≡ Ok x → BreaksWhere Deep (f x)) → BreaksWhere Deep (r >>= f)
  where_bind (Ok x) f p q = q x refl
  where_bind (Err e) f p q = record { why = λ d h. p.why d cc }

why_more : {Deep Deeper : Type 0} {e : Break} → (Deep → Deeper) → Why Deep e → Why Deeper e
why_more more broken = broken
why_more more (deep x) = deep (more x)

module _ {A : Type 0} (Deep Deeper : Type 0) (more : Deep → Deeper) where
  where_more : (r : Result A Break) → BreaksWhere Deep r → BreaksWhere Deeper r
  where_more r p = record { why = λ e h. why_more more (p.why e h) }

-- the byte that ends instructions, and what was read before it
where_end : {B : Type 0} (Deep : Type 0) (text : List ℕ) (x : B) → BreaksWhere Deep (byte_at 0x0B text >>= λ end. got x end.1)
where_end Deep text x = where_bind Deep (byte_at 0x0B text) _ (where_plain Deep (byte_at 0x0B text) (is_plain (byte_at 0x0B) (byte_plain 0x0B) text)) (λ end _. where_ok Deep (x, end.1))

where_type : {B : Type 0} (Deep : Type 0) (text : List ℕ) (f : BlockType × List ℕ → Result B Break) → ((t : BlockType × List ℕ) → block_type_at text ≡ Ok t → BreaksWhere Deep (f t))
    → BreaksWhere Deep (block_type_at text >>= f)
where_type Deep text f then_breaks = where_bind Deep (block_type_at text) f (where_plain Deep (block_type_at text) (is_plain block_type_at block_type_plain text)) then_breaks

-- what is read so is too deep

abbrev pub FindsDepth : Inner → Type 0
FindsDepth inner = (d : ℕ) (text : List ℕ) → BreaksWhere (GetsTooDeep d text) (inner d text)

module _ (inner : Inner) (sound : FindsSpelled inner) (finds : FindsDepth inner) where
  body_breaks : (d b : ℕ) (make : BlockType → Expr → Instr) (text : List ℕ) → IsTrue (opens_block (operands b)) → BreaksWhere (IsTooDeep d (b ∷ text)) (body_at inner d make text)
  unfolding body_at
  body_breaks zero b make text o = where_deep (IsTooDeep zero (b ∷ text)) (opens o)
  body_breaks (suc d) b make text o =
      where_type (IsTooDeep (suc d) (b ∷ text)) text _ (λ t e.
      let s = block_type_sound text t.0 t.1 e in
      where_bind (IsTooDeep (suc d) (b ∷ text)) (inner d t.1) _
      (where_more (GetsTooDeep d t.1) (IsTooDeep (suc d) (b ∷ text)) (λ g. subst (λ l. IsTooDeep (suc d) (b ∷ l)) (sym s.parts) (inside o s.spelled g)) (inner d t.1) (finds d t.1))
      (λ is _. where_end _ is.1 (make t.0 (expr_of is.0))))

  module _ (d b : ℕ) (t : BlockType) (is : List Instr) (w v : List ℕ) (o : operands b ≡ IfBodies) (ty : SpellsBlockType t w) (s : SpellsInstrs is v) (least : nesting_all is ≤ d) where
    else_breaks : (c : ℕ) (text : List ℕ) → eqb c 0x05 ≡ true → BreaksWhere (IsTooDeep (suc d) (b ∷ (w ++ (v ++ c ∷ text)))) (else_at inner d t is text)
    else_breaks c text other =
        where_bind (IsTooDeep (suc d) (b ∷ (w ++ (v ++ c ∷ text)))) (inner d text) _
        (where_more (GetsTooDeep d text) (IsTooDeep (suc d) (b ∷ (w ++ (v ++ c ∷ text)))) (λ g. subst (λ c. IsTooDeep (suc d) (b ∷ (w ++ (v ++ c ∷ text)))) (sym (eqb-true c 0x05 other)) (in_else o ty s least g)) (inner d text) (finds d text))
        (λ others _. where_end _ others.1 (If t (expr_of is) (Some (expr_of others.0))))

    arms_breaks : (text : List ℕ) → BreaksWhere (IsTooDeep (suc d) (b ∷ (w ++ (v ++ text)))) (arms_at inner d t is text)
    unfolding arms_at
    arms_breaks [] = where_broken _
    arms_breaks (c ∷ text) = where_choice _ (eqb c 0x0B) _ _ (λ _. where_ok _ _) (λ _. where_choice _ (eqb c 0x05) _ _ (λ other. else_breaks c text other) (λ _. where_broken _))

  opens_if : (b : ℕ) → operands b ≡ IfBodies → IsTrue (opens_block (operands b))
  opens_if b o = subst (λ o. IsTrue (opens_block o)) (sym o) refl

  if_breaks : (d b : ℕ) (text : List ℕ) → operands b ≡ IfBodies → BreaksWhere (IsTooDeep d (b ∷ text)) (if_at inner d text)
  unfolding if_at
  if_breaks zero b text o = where_deep (IsTooDeep zero (b ∷ text)) (opens (opens_if b o))
  if_breaks (suc d) b text o =
      where_type (IsTooDeep (suc d) (b ∷ text)) text _ (λ t e.
      let s = block_type_sound text t.0 t.1 e in
      where_bind (IsTooDeep (suc d) (b ∷ text)) (inner d t.1) _
      (where_more (GetsTooDeep d t.1) (IsTooDeep (suc d) (b ∷ text)) (λ g. subst (λ l. IsTooDeep (suc d) (b ∷ l)) (sym s.parts) (inside (opens_if b o) s.spelled g)) (inner d t.1) (finds d t.1))
      (λ is h.
      let l = sound d t.1 is.0 is.1 h in
      subst (λ l. BreaksWhere (IsTooDeep (suc d) (b ∷ l)) (arms_at inner d t.0 is.0 is.1)) (sym (s.parts ∙ ap (λ x. s.word ++ x) l.takes.parts))
      (arms_breaks d b t.0 is.0 s.word l.takes.word o s.spelled l.takes.spelled l.within is.1)))

  operands_breaks : (d : ℕ) (o : Operands) (b : ℕ) (text : List ℕ) → operands b ≡ o → BreaksWhere (IsTooDeep d (b ∷ text)) (operands_at inner d o b text)
  operands_breaks d NoOperand b text o = where_ok _ _
  operands_breaks d OneIndex b text o = where_plain _ _ (index_plain text b)
  operands_breaks d BlockBody b text o = body_breaks d b Block text (subst (λ o. IsTrue (opens_block o)) (sym o) refl)
  operands_breaks d LoopBody b text o = body_breaks d b Loop text (subst (λ o. IsTrue (opens_block o)) (sym o) refl)
  operands_breaks d IfBodies b text o = if_breaks d b text o
  operands_breaks d Labels b text o = where_plain _ _ (labels_plain text)
  operands_breaks d TypeAndTable b text o = where_plain _ _ (type_and_table_plain text)
  operands_breaks d ValueTypes b text o = where_plain _ _ (value_types_plain text)
  operands_breaks d OneRefType b text o = where_plain _ _ (ref_null_plain text)
  operands_breaks d MemoryArgument b text o = where_plain _ _ (memory_argument_plain text b)
  operands_breaks d MemorySizeByte b text o = where_plain _ _ (memory_size_plain text)
  operands_breaks d MemoryGrowByte b text o = where_plain _ _ (memory_grow_plain text)
  operands_breaks d OneI32 b text o = where_plain _ _ (i32_const_plain text)
  operands_breaks d OneI64 b text o = where_plain _ _ (i64_const_plain text)
  operands_breaks d OneF32 b text o = where_plain _ _ (f32_const_plain text)
  operands_breaks d OneF64 b text o = where_plain _ _ (f64_const_plain text)
  operands_breaks d SecondOpcode b text o = where_plain _ _ (prefixed_plain text)
  operands_breaks d NoOpcode b text o = where_broken _

-- an instruction more before what gets too deep
grown_here : {d : ℕ} {text : List ℕ} (i : Instr) (w : List ℕ) → SpellsInstr i w → nesting i ≤ d → GetsTooDeep d text → GetsTooDeep d (w ++ text)
grown_here i u s least (after {d} {is} {w} {rest} l within p) =
    let room : nesting_all (i ∷ is) ≤ d = omega arith in
    subst (GetsTooDeep d) (append_assoc u w rest) (after (next s l) room p)

grown : (d : ℕ) (text : List ℕ) (i : Instr) (rest : List ℕ) → TakesInstr d text i rest → GetsTooDeep d rest → GetsTooDeep d text
grown d text i rest t g = subst (GetsTooDeep d) (sym t.takes.parts) (grown_here i t.takes.word t.takes.spelled t.within g)

at_once : (d : ℕ) (text : List ℕ) → IsTooDeep d text → GetsTooDeep d text
at_once d text i = after done (omega arith) i

pub instrs_break : (k : ℕ) → FindsDepth (instrs_at k)
unfolding instrs_at
instrs_break zero d text = where_broken _
instrs_break (suc k) d [] = where_broken _
instrs_break (suc k) d (b ∷ bs) =
    where_choice _ (ends b) _ _ (λ _. where_ok _ _)
    (λ _. where_bind (GetsTooDeep d (b ∷ bs)) (instr_at (instrs_at k) d b bs) _
    (where_more (IsTooDeep d (b ∷ bs)) (GetsTooDeep d (b ∷ bs)) (at_once d (b ∷ bs)) (instr_at (instrs_at k) d b bs)
    (operands_breaks (instrs_at k) (instrs_found k) (instrs_break k) d (operands b) b bs refl))
    (λ i e.
    let t = instr_taken (instrs_at k) (instrs_found k) d b bs i.0 i.1 e in
    where_bind (GetsTooDeep d (b ∷ bs)) (instrs_at k d i.1) _
    (where_more (GetsTooDeep d i.1) (GetsTooDeep d (b ∷ bs)) (grown d (b ∷ bs) i.0 i.1 t) (instrs_at k d i.1) (instrs_break k d i.1)) (λ _ _. where_ok _ _)))

expr_where : (k d : ℕ) (text : List ℕ) → BreaksWhere (GetsTooDeep d text) (expr_within k d text)
unfolding expr_within
expr_where k d text =
    where_bind (GetsTooDeep d text) (instrs_at k d text) _ (instrs_break k d text)
    (λ is _. where_end (GetsTooDeep d text) is.1 (expr_of is.0))

-- where reading an expression breaks, the format does, or it gets too deep
pub expr_breaks : (d : ℕ) (text : List ℕ) → BreaksWhere (GetsTooDeep d text) (expr_at d text)
expr_breaks d text = expr_where (suc (length text)) d text

too_deep_is : {Deep : Type 0} {e : Break} → Why Deep e → e ≡ TooDeep → Deep
too_deep_is broken h = absurd cc
too_deep_is (deep x) h = x

no_locals : {Deep : Type 0} {e : Break} → Why Deep e → e ≡ TooManyLocals → ⊥
no_locals broken h = cc
no_locals (deep x) h = cc

pub expr_deep_back : (d : ℕ) (text : List ℕ) → expr_at d text ≡ Err TooDeep → GetsTooDeep d text
expr_deep_back d text e = too_deep_is ((expr_breaks d text).why TooDeep e) refl

pub expr_locals : (d : ℕ) (text : List ℕ) → expr_at d text ≡ Err TooManyLocals → ⊥
expr_locals d text e = no_locals ((expr_breaks d text).why TooManyLocals e) refl

-- what is too deep is read so

-- these instructions, and then what was read
abbrev with_front : List Instr → Read (List Instr) → Read (List Instr)
with_front front r = r >>= λ is. got (front ++ is.0) is.1

front_none : (r : Read (List Instr)) → r ≡ with_front [] r
front_none (Ok x) = refl
front_none (Err e) = refl

front_more : (i : Instr) (is : List Instr) (r : Read (List Instr)) → (with_front is r >>= λ x. got (i ∷ x.0) x.1) ≡ with_front (i ∷ is) r
front_more i is (Ok x) = refl
front_more i is (Err e) = refl

-- after instructions that are spelled, what follows them is read
record ReadsOn (d k : ℕ) (text : List ℕ) (is : List Instr) (rest : List ℕ) : Type 0 where
  left : ℕ
  enough : length rest < left
  reads : instrs_at k d text ≡ with_front is (instrs_at left d rest)

reads_on : {is : List Instr} {w : List ℕ} → SpellsInstrs is w → (d : ℕ) → nesting_all is ≤ d → (rest : List ℕ) (k : ℕ) → length (w ++ rest) < k → ReadsOn d k (w ++ rest) is rest
reads_on done d within rest k lt = record { left = k; enough = lt; reads = front_none (instrs_at k d rest) }
reads_on (next {i} {is} {w} {v} p q) d within rest zero lt = absurd (omega arith)
reads_on (next {i} {is} {w} {v} p q) d within rest (suc k) lt =
    let here : nesting i ≤ d = omega arith in
    let later : nesting_all is ≤ d = omega arith in
    let r = instr_reads p in
    let split : (w ++ v) ++ rest ≡ r.head ∷ (r.tail ++ (v ++ rest)) = opened w v rest r.head r.tail r.parts in
    let long : length ((w ++ v) ++ rest) ≡ suc (length (r.tail ++ (v ++ rest))) = ap length split in
    let one : length r.tail < k = omega (arith, length-append r.tail (v ++ rest)) in
    let others : length (v ++ rest) < k = omega (arith, length-append r.tail (v ++ rest)) in
    let on = reads_on q d later rest k others in
    record {
      left = on.left;
      enough = on.enough;
      reads = ap (instrs_at (suc k) d) split
          ∙ one_turn d k r.head r.tail (v ++ rest) i r.starts (r.reads d here k one (v ++ rest))
          ∙ ap (λ (x : Read (List Instr)). x >>= λ is. got (i ∷ is.0) is.1) on.reads
          ∙ front_more i is (instrs_at on.left d rest);
    }

opens_form : (o : Operands) → IsTrue (opens_block o) → (o ≡ BlockBody) ⊎ ((o ≡ LoopBody) ⊎ (o ≡ IfBodies))
opens_form BlockBody h = inl refl
opens_form LoopBody h = inr (inl refl)
opens_form IfBodies h = inr (inr refl)
opens_form NoOperand h = absurd cc
opens_form OneIndex h = absurd cc
opens_form Labels h = absurd cc
opens_form TypeAndTable h = absurd cc
opens_form ValueTypes h = absurd cc
opens_form OneRefType h = absurd cc
opens_form MemoryArgument h = absurd cc
opens_form MemorySizeByte h = absurd cc
opens_form MemoryGrowByte h = absurd cc
opens_form OneI32 h = absurd cc
opens_form OneI64 h = absurd cc
opens_form OneF32 h = absurd cc
opens_form OneF64 h = absurd cc
opens_form SecondOpcode h = absurd cc
opens_form NoOpcode h = absurd cc

starts_block : (b : ℕ) → IsTrue (opens_block (operands b)) → ends b ≡ false
starts_block b h = elim (opens_form (operands b) h) [
  | inl e ↦ begins b BlockBody e refl
  | inr (inl e) ↦ begins b LoopBody e refl
  | inr (inr e) ↦ begins b IfBodies e refl
]

-- an instruction of which the opcode begins a block, and reading what follows it gets too deep
record ReadsDeep (d : ℕ) (text : List ℕ) : Type 0 where
  head : ℕ
  tail : List ℕ
  parts : text ≡ head ∷ tail
  starts : ends head ≡ false
  reads : (k : ℕ) → length tail < k → instr_at (instrs_at k) d head tail ≡ Err TooDeep

opens_deep : (inner : Inner) (o : Operands) (b : ℕ) (text : List ℕ) → IsTrue (opens_block o) → operands_at inner zero o b text ≡ Err TooDeep
unfolding body_at if_at
opens_deep inner o b text h = elim (opens_form o h) [
  | inl e ↦ rw e refl
  | inr (inl e) ↦ rw e refl
  | inr (inr e) ↦ rw e refl
]

inside_deep : (inner : Inner) (d : ℕ) (o : Operands) (b : ℕ) (t : BlockType) (w rest : List ℕ) → IsTrue (opens_block o) → SpellsBlockType t w → inner d rest ≡ Err TooDeep
    → operands_at inner (suc d) o b (w ++ rest) ≡ Err TooDeep
unfolding body_at if_at
inside_deep inner d o b t w rest h ty e = elim (opens_form o h) [
  | inl f ↦ rw (f, block_type_again ty rest, e) refl
  | inr (inl f) ↦ rw (f, block_type_again ty rest, e) refl
  | inr (inr f) ↦ rw (f, block_type_again ty rest, e) refl
]

else_deep : (inner : Inner) (d b : ℕ) (t : BlockType) (is : List Instr) (w v rest : List ℕ) → SpellsBlockType t w → inner d (v ++ 0x05 ∷ rest) ≡ Ok (is, 0x05 ∷ rest) → inner d rest ≡ Err TooDeep
    → operands_at inner (suc d) IfBodies b (w ++ (v ++ 0x05 ∷ rest)) ≡ Err TooDeep
unfolding if_at arms_at
else_deep inner d b t is w v rest ty s e = rw (block_type_again ty (v ++ 0x05 ∷ rest), s, e) refl

deep_turn : (d k : ℕ) (text : List ℕ) (head : ℕ) (tail : List ℕ) → text ≡ head ∷ tail → ends head ≡ false → instr_at (instrs_at k) d head tail ≡ Err TooDeep → instrs_at (suc k) d text ≡ Err TooDeep
unfolding instrs_at
deep_turn d k text head tail e starts h = rw (e, starts, h) refl

-- the first instruction that gets too deep
deep_last : (d : ℕ) (is : List Instr) (text rest : List ℕ) (k : ℕ) → ReadsOn d k text is rest → ReadsDeep d rest → instrs_at k d text ≡ Err TooDeep
deep_last d is text rest k f r =
    let long : length rest ≡ suc (length r.tail) = ap length r.parts in
    let enough : length rest < f.left = f.enough in
    let n : f.left ≡ suc (f.left - 1) = omega arith in
    let short : length r.tail < f.left - 1 = omega arith in
    let one : instrs_at (suc (f.left - 1)) d rest ≡ Err TooDeep = deep_turn d (f.left - 1) rest r.head r.tail r.parts r.starts (r.reads (f.left - 1) short) in
    f.reads ∙ ap (λ j. with_front is (instrs_at j d rest)) n ∙ ap (with_front is) one

mutual
  instr_deep : {d : ℕ} {text : List ℕ} → IsTooDeep d text → ReadsDeep d text
  instr_deep (opens {b} {rest} h) =
      record { head = b; tail = rest; parts = refl; starts = starts_block b h; reads = λ k lt. opens_deep (instrs_at k) (operands b) b rest h }
  instr_deep (inside {d} {b} {t} {w} {rest} h ty g) = record {
    head = b;
    tail = w ++ rest;
    parts = refl;
    starts = starts_block b h;
    reads = λ k lt. let short : length rest < k = omega (arith, length-append w rest) in inside_deep (instrs_at k) d (operands b) b t w rest h ty (instrs_deep g k short);
  }
  instr_deep (in_else {d} {b} {t} {is} {w} {v} {rest} o ty s within g) = record {
    head = b;
    tail = w ++ (v ++ 0x05 ∷ rest);
    parts = refl;
    starts = begins b IfBodies o refl;
    reads = λ k lt.
        let first : length v < k = omega (arith, length-append w (v ++ 0x05 ∷ rest), length-append v (0x05 ∷ rest)) in
        let other : length rest < k = omega (arith, length-append w (v ++ 0x05 ∷ rest), length-append v (0x05 ∷ rest)) in
        ap (λ o. operands_at (instrs_at k) (suc d) o b (w ++ (v ++ 0x05 ∷ rest))) o
        ∙ else_deep (instrs_at k) d b t is w v rest ty (instrs_again s d within 0x05 rest refl k first) (instrs_deep g k other);
  }

  pub instrs_deep : {d : ℕ} {text : List ℕ} → GetsTooDeep d text → (k : ℕ) → length text < k → instrs_at k d text ≡ Err TooDeep
  instrs_deep (after {d} {is} {w} {rest} s within i) k lt = deep_last d is (w ++ rest) rest k (reads_on s d within rest k lt) (instr_deep i)

expr_deep_within : (k d : ℕ) (text : List ℕ) → length text < k → GetsTooDeep d text → expr_within k d text ≡ Err TooDeep
unfolding expr_within
expr_deep_within k d text lt g = rw (instrs_deep g k lt) refl

pub expr_deep : (d : ℕ) (text : List ℕ) → GetsTooDeep d text → expr_at d text ≡ Err TooDeep
expr_deep d text g = expr_deep_within (suc (length text)) d text (omega arith) g
