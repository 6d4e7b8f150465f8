-- Instructions that are read are spelled so, and no more blocks are nested in them than may be.
use Rattle.std.proofs.Common.{◌≡◌, ℕ, zero, suc, max, ◌≤◌, true, eqb, List, [], ◌∷◌, ◌++◌, length, Some, None, Ok, refl, sym, ap, subst, ◌∙◌, append_assoc, arith, inl, inr}
use Rattle.std.proofs.lemmas.Bool.{eqb-true}
use Rattle.spec_binary.specs.wasm_form.declared.instr.BlockType.{BlockType}
use Rattle.spec_binary.specs.wasm_form.declared.instr.Instr.{Instr, Plain, Block, Loop, If}
use Rattle.spec_binary.specs.wasm_form.declared.instr.Expr.{Expr}
use Rattle.spec_binary.specs.Operands.{Operands, NoOperand, OneIndex, BlockBody, LoopBody, IfBodies, Labels, TypeAndTable, ValueTypes, OneRefType, MemoryArgument, MemorySizeByte, MemoryGrowByte, OneI32, OneI64, OneF32, OneF64, SecondOpcode, NoOpcode, operands}
use Rattle.spec_binary.specs.Instructions.{SpellsBlockType, SpellsInstr, plain, block, loop, if_alone, if_else, SpellsInstrs, done, next, SpellsExpr, expr}
use Rattle.spec_binary.specs.Trees.{nesting, nesting_all}
use Rattle.spec_reading.specs.Steps.{Break, Read}
use Rattle.spec_reading.specs.Values.{byte_at}
use Rattle.spec_reading.specs.Instructions.{Inner, expr_of, block_type_at, body_at, else_at, arms_at, if_at, operands_at, instr_at, ends, instrs_at, expr_within, expr_at}
use Rattle.spec_reading.proofs.Steps.{bind_ok, chosen, chosen_first, ok_is, Takes}
use Rattle.spec_reading.proofs.Values.{byte_sound}
use Rattle.spec_reading.proofs.BlockTypes.{block_type_sound}
use Rattle.spec_reading.proofs.Operands.{TakesInstr, flat_taken, index_taken, labels_taken, type_and_table_taken, value_types_taken, ref_null_taken, memory_argument_taken, memory_size_taken, memory_grow_taken, i32_const_taken, i64_const_taken, f32_const_taken, f64_const_taken, prefixed_taken}
use Rattle.spec_reading.proofs.Trees.{nesting-Plain, nesting-Block, nesting-Loop, nesting-If-alone, nesting-If-else}

-- instructions at the front of a text, in which at most d blocks are nested
pub record TakesInstrs (d : ℕ) (text : List ℕ) (is : List Instr) (rest : List ℕ) : Type 0 where
  pub takes : Takes SpellsInstrs text is rest
  pub within : nesting_all is ≤ d

abbrev pub FindsSpelled : Inner → Type 0
FindsSpelled inner = (d : ℕ) (text : List ℕ) (is : List Instr) (rest : List ℕ) → inner d text ≡ Ok (is, rest) → TakesInstrs d text is rest

-- the parts of a block
record TakesBody (d : ℕ) (make : BlockType → Expr → Instr) (text : List ℕ) (i : Instr) (rest : List ℕ) : Type 0 where
  type : BlockType
  inside : List Instr
  front : List ℕ
  middle : List ℕ
  spelled_type : SpellsBlockType type front
  spelled : SpellsInstrs inside middle
  room : suc (nesting_all inside) ≤ d
  parts : text ≡ front ++ (middle ++ 0x0B ∷ rest)
  is : make type (expr_of inside) ≡ i

unwind : (a b x : List ℕ) → a ++ (b ++ 0x0B ∷ x) ≡ (a ++ (b ++ 0x0B ∷ [])) ++ x
unwind a b x = sym (simp append_assoc)

unwind_arms : (a b c x : List ℕ) → a ++ (b ++ 0x05 ∷ (c ++ 0x0B ∷ x)) ≡ (a ++ (b ++ 0x05 ∷ c ++ 0x0B ∷ [])) ++ x
unwind_arms a b c x = sym (simp append_assoc)

-- a spelled instruction, moved to what was read
moved : (d b : ℕ) (text word : List ℕ) (j i : Instr) (rest : List ℕ) (n : ℕ) → nesting j ≡ n → n ≤ d → SpellsInstr j (b ∷ word) → text ≡ word ++ rest → j ≡ i → TakesInstr d (b ∷ text) i rest
moved d b text word j i rest n same room s e is = record {
  takes = record { word = b ∷ word; spelled = subst (λ i. SpellsInstr i (b ∷ word)) is s; parts = ap (λ l. b ∷ l) e };
  within = subst (λ i. nesting i ≤ d) is (omega arith);
}

module _ (inner : Inner) (finds : FindsSpelled inner) where
  body_taken : (d : ℕ) (make : BlockType → Expr → Instr) (text : List ℕ) (i : Instr) (rest : List ℕ) → body_at inner d make text ≡ Ok (i, rest) → TakesBody d make text i rest
  unfolding body_at
  body_taken zero make text i rest e = absurd cc
  body_taken (suc d) make text i rest e =
      let a = bind_ok (block_type_at text) _ (i, rest) e in
      let b = bind_ok (inner d a.0.1) _ (i, rest) a.2 in
      let c = bind_ok (byte_at 0x0B b.0.1) _ (i, rest) b.2 in
      let same = ok_is Break (make a.0.0 (expr_of b.0.0), c.0.1) (i, rest) c.2 in
      let t = block_type_sound text a.0.0 a.0.1 a.1 in
      let l = finds d a.0.1 b.0.0 b.0.1 b.1 in
      let z = byte_sound 0x0B b.0.1 c.0.0 c.0.1 c.1 in
      let least : nesting_all b.0.0 ≤ d = l.within in
      record {
        type = a.0.0;
        inside = b.0.0;
        front = t.word;
        middle = l.takes.word;
        spelled_type = t.spelled;
        spelled = l.takes.spelled;
        room = omega arith;
        parts = t.parts ∙ ap (λ x. t.word ++ x) (l.takes.parts ∙ ap (λ x. l.takes.word ++ x) (z ∙ ap (λ (q : Instr × List ℕ). 0x0B ∷ q.1) same));
        is = ap (λ (q : Instr × List ℕ). q.0) same;
      }

  block_taken : (d b : ℕ) (text : List ℕ) (i : Instr) (rest : List ℕ) → operands b ≡ BlockBody → body_at inner d Block text ≡ Ok (i, rest) → TakesInstr d (b ∷ text) i rest
  block_taken d b text i rest o e =
      let p = body_taken d Block text i rest e in
      moved d b text (p.front ++ (p.middle ++ 0x0B ∷ [])) (Block p.type (expr_of p.inside)) i rest (suc (nesting_all p.inside)) (nesting-Block p.type (expr_of p.inside)) p.room
      (block {e = expr_of p.inside} o p.spelled_type p.spelled) (p.parts ∙ unwind p.front p.middle rest) p.is

  loop_taken : (d b : ℕ) (text : List ℕ) (i : Instr) (rest : List ℕ) → operands b ≡ LoopBody → body_at inner d Loop text ≡ Ok (i, rest) → TakesInstr d (b ∷ text) i rest
  loop_taken d b text i rest o e =
      let p = body_taken d Loop text i rest e in
      moved d b text (p.front ++ (p.middle ++ 0x0B ∷ [])) (Loop p.type (expr_of p.inside)) i rest (suc (nesting_all p.inside)) (nesting-Loop p.type (expr_of p.inside)) p.room
      (loop {e = expr_of p.inside} o p.spelled_type p.spelled) (p.parts ∙ unwind p.front p.middle rest) p.is

  module _ (d b : ℕ) (t : BlockType) (is : List Instr) (w v : List ℕ) (o : operands b ≡ IfBodies) (ty : SpellsBlockType t w) (s : SpellsInstrs is v) (least : nesting_all is ≤ d) where
    alone_taken : (c : ℕ) (text : List ℕ) (i : Instr) (rest : List ℕ) → eqb c 0x0B ≡ true → If t (expr_of is) None ≡ i → text ≡ rest → TakesInstr (suc d) (b ∷ (w ++ (v ++ c ∷ text))) i rest
    alone_taken c text i rest end same e =
        let room : suc (nesting_all is) ≤ suc d = omega arith in
        let parts : w ++ (v ++ c ∷ text) ≡ w ++ (v ++ 0x0B ∷ rest) = ap (λ c. w ++ (v ++ c ∷ text)) (eqb-true c 0x0B end) ∙ ap (λ text. w ++ (v ++ 0x0B ∷ text)) e in
        moved (suc d) b (w ++ (v ++ c ∷ text)) (w ++ (v ++ 0x0B ∷ [])) (If t (expr_of is) None) i rest (suc (nesting_all is)) (nesting-If-alone t (expr_of is)) room
        (if_alone {e = expr_of is} o ty s) (parts ∙ unwind w v rest) same

    else_taken : (c : ℕ) (text : List ℕ) (i : Instr) (rest : List ℕ) → eqb c 0x05 ≡ true → else_at inner d t is text ≡ Ok (i, rest) → TakesInstr (suc d) (b ∷ (w ++ (v ++ c ∷ text))) i rest
    else_taken c text i rest other e =
        let r = bind_ok (inner d text) _ (i, rest) e in
        let z = bind_ok (byte_at 0x0B r.0.1) _ (i, rest) r.2 in
        let same = ok_is Break (If t (expr_of is) (Some (expr_of r.0.0)), z.0.1) (i, rest) z.2 in
        let l = finds d text r.0.0 r.0.1 r.1 in
        let end = byte_sound 0x0B r.0.1 z.0.0 z.0.1 z.1 in
        let within : nesting_all r.0.0 ≤ d = l.within in
        let room : suc (max (nesting_all is) (nesting_all r.0.0)) ≤ suc d = omega arith in
        let inside : text ≡ l.takes.word ++ 0x0B ∷ rest = l.takes.parts ∙ ap (λ x. l.takes.word ++ x) (end ∙ ap (λ (q : Instr × List ℕ). 0x0B ∷ q.1) same) in
        let parts : w ++ (v ++ c ∷ text) ≡ w ++ (v ++ 0x05 ∷ (l.takes.word ++ 0x0B ∷ rest)) =
        ap (λ c. w ++ (v ++ c ∷ text)) (eqb-true c 0x05 other) ∙ ap (λ text. w ++ (v ++ 0x05 ∷ text)) inside in
        moved (suc d) b (w ++ (v ++ c ∷ text)) (w ++ (v ++ 0x05 ∷ l.takes.word ++ 0x0B ∷ [])) (If t (expr_of is) (Some (expr_of r.0.0))) i rest
        (suc (max (nesting_all is) (nesting_all r.0.0))) (nesting-If-else t (expr_of is) (expr_of r.0.0)) room
        (if_else {e = expr_of is} {other = expr_of r.0.0} o ty s l.takes.spelled) (parts ∙ unwind_arms w v l.takes.word rest) (ap (λ (q : Instr × List ℕ). q.0) same)

    arms_taken : (text : List ℕ) (i : Instr) (rest : List ℕ) → arms_at inner d t is text ≡ Ok (i, rest) → TakesInstr (suc d) (b ∷ (w ++ (v ++ text))) i rest
    unfolding arms_at
    arms_taken [] i rest e = absurd cc
    arms_taken (c ∷ text) i rest e = elim (chosen (eqb c 0x0B) _ _ _ e) [
      | inl p ↦
          let same = ok_is Break (If t (expr_of is) None, text) (i, rest) p.1 in
          alone_taken c text i rest p.0 (ap (λ (q : Instr × List ℕ). q.0) same) (ap (λ (q : Instr × List ℕ). q.1) same)
      | inr p ↦ let q = chosen_first (eqb c 0x05) _ _ _ p.1 in else_taken c text i rest q.0 q.1
    ]

  if_taken : (d b : ℕ) (text : List ℕ) (i : Instr) (rest : List ℕ) → operands b ≡ IfBodies → if_at inner d text ≡ Ok (i, rest) → TakesInstr d (b ∷ text) i rest
  unfolding if_at
  if_taken zero b text i rest o e = absurd cc
  if_taken (suc d) b text i rest o e =
      let a = bind_ok (block_type_at text) _ (i, rest) e in
      let l = bind_ok (inner d a.0.1) _ (i, rest) a.2 in
      let t = block_type_sound text a.0.0 a.0.1 a.1 in
      let s = finds d a.0.1 l.0.0 l.0.1 l.1 in
      let r = arms_taken d b a.0.0 l.0.0 t.word s.takes.word o t.spelled s.takes.spelled s.within l.0.1 i rest l.2 in
      subst (λ text. TakesInstr (suc d) (b ∷ text) i rest) (sym (t.parts ∙ ap (λ x. t.word ++ x) s.takes.parts)) r

  operands_taken : (d : ℕ) (o : Operands) (b : ℕ) (text : List ℕ) (i : Instr) (rest : List ℕ) → operands b ≡ o → operands_at inner d o b text ≡ Ok (i, rest) → TakesInstr d (b ∷ text) i rest
  operands_taken d NoOperand b text i rest o e =
      let same = ok_is Break (Plain b, text) (i, rest) e in
      flat_taken d b text [] (Plain b) i rest (nesting-Plain b) (plain o) (ap (λ (q : Instr × List ℕ). q.1) same) (ap (λ (q : Instr × List ℕ). q.0) same)
  operands_taken d OneIndex b text i rest o e = index_taken d b text i rest o e
  operands_taken d BlockBody b text i rest o e = block_taken d b text i rest o e
  operands_taken d LoopBody b text i rest o e = loop_taken d b text i rest o e
  operands_taken d IfBodies b text i rest o e = if_taken d b text i rest o e
  operands_taken d Labels b text i rest o e = labels_taken d b text i rest o e
  operands_taken d TypeAndTable b text i rest o e = type_and_table_taken d b text i rest o e
  operands_taken d ValueTypes b text i rest o e = value_types_taken d b text i rest o e
  operands_taken d OneRefType b text i rest o e = ref_null_taken d b text i rest o e
  operands_taken d MemoryArgument b text i rest o e = memory_argument_taken d b text i rest o e
  operands_taken d MemorySizeByte b text i rest o e = memory_size_taken d b text i rest o e
  operands_taken d MemoryGrowByte b text i rest o e = memory_grow_taken d b text i rest o e
  operands_taken d OneI32 b text i rest o e = i32_const_taken d b text i rest o e
  operands_taken d OneI64 b text i rest o e = i64_const_taken d b text i rest o e
  operands_taken d OneF32 b text i rest o e = f32_const_taken d b text i rest o e
  operands_taken d OneF64 b text i rest o e = f64_const_taken d b text i rest o e
  operands_taken d SecondOpcode b text i rest o e = prefixed_taken d b text i rest o e
  operands_taken d NoOpcode b text i rest o e = absurd cc

  pub instr_taken : (d b : ℕ) (text : List ℕ) (i : Instr) (rest : List ℕ) → instr_at inner d b text ≡ Ok (i, rest) → TakesInstr d (b ∷ text) i rest
  instr_taken d b text i rest e = operands_taken d (operands b) b text i rest refl e

-- one instruction and those after it
taken_more : (d : ℕ) (text middle rest : List ℕ) (i : Instr) (is : List Instr) → TakesInstr d text i middle → TakesInstrs d middle is rest → TakesInstrs d text (i ∷ is) rest
taken_more d text middle rest i is a b =
    let here : nesting i ≤ d = a.within in
    let later : nesting_all is ≤ d = b.within in
    record {
      takes = record {
        word = a.takes.word ++ b.takes.word;
        spelled = next a.takes.spelled b.takes.spelled;
        parts = a.takes.parts ∙ ap (λ x. a.takes.word ++ x) b.takes.parts ∙ sym (append_assoc a.takes.word b.takes.word rest);
      };
      within = omega arith;
    }

taken_given : (d : ℕ) (text : List ℕ) (is js : List Instr) (u v : List ℕ) → ◌≡◌ {A = Read (List Instr)} (Ok (is, u)) (Ok (js, v)) → TakesInstrs d text is u → TakesInstrs d text js v
taken_given d text is js u v e t = subst (λ (p : List Instr × List ℕ). TakesInstrs d text p.0 p.1) (ok_is Break (is, u) (js, v) e) t

pub instrs_found : (k : ℕ) → FindsSpelled (instrs_at k)
unfolding instrs_at
instrs_found zero d text is rest e = absurd cc
instrs_found (suc k) d [] is rest e = absurd cc
instrs_found (suc k) d (b ∷ bs) is rest e = elim (chosen (ends b) _ _ _ e) [
  | inl p ↦ taken_given d (b ∷ bs) [] is (b ∷ bs) rest p.1 (record { takes = record { word = []; spelled = done; parts = refl }; within = omega arith })
  | inr p ↦
      let a = bind_ok (instr_at (instrs_at k) d b bs) _ (is, rest) p.1 in
      let l = bind_ok (instrs_at k d a.0.1) _ (is, rest) a.2 in
      taken_given d (b ∷ bs) (a.0.0 ∷ l.0.0) is l.0.1 rest l.2
      (taken_more d (b ∷ bs) a.0.1 l.0.1 a.0.0 l.0.0 (instr_taken (instrs_at k) (instrs_found k) d b bs a.0.0 a.0.1 a.1) (instrs_found k d a.0.1 l.0.0 l.0.1 l.1))
]

-- an expression at the front of a text, in which at most d blocks are nested
pub record TakesExpr (d : ℕ) (text : List ℕ) (e : Expr) (rest : List ℕ) : Type 0 where
  pub takes : Takes SpellsExpr text e rest
  pub within : nesting_all e.list ≤ d

expr_given : (d : ℕ) (text : List ℕ) (x y : Expr) (u v : List ℕ) → ◌≡◌ {A = Read Expr} (Ok (x, u)) (Ok (y, v)) → TakesExpr d text x u → TakesExpr d text y v
expr_given d text x y u v e t = subst (λ (p : Expr × List ℕ). TakesExpr d text p.0 p.1) (ok_is Break (x, u) (y, v) e) t

pub expr_found : (k d : ℕ) (text : List ℕ) (e : Expr) (rest : List ℕ) → expr_within k d text ≡ Ok (e, rest) → TakesExpr d text e rest
unfolding expr_within
expr_found k d text e rest h =
    let a = bind_ok (instrs_at k d text) _ (e, rest) h in
    let z = bind_ok (byte_at 0x0B a.0.1) _ (e, rest) a.2 in
    let t = instrs_found k d text a.0.0 a.0.1 a.1 in
    let end = byte_sound 0x0B a.0.1 z.0.0 z.0.1 z.1 in
    expr_given d text (expr_of a.0.0) e z.0.1 rest z.2
    (record {
      takes = record {
        word = t.takes.word ++ 0x0B ∷ [];
        spelled = expr {e = expr_of a.0.0} t.takes.spelled;
        parts = t.takes.parts ∙ ap (λ x. t.takes.word ++ x) end ∙ sym (append_assoc t.takes.word (0x0B ∷ []) z.0.1);
      };
      within = t.within;
    })

pub expr_sound : (d : ℕ) (text : List ℕ) (e : Expr) (rest : List ℕ) → expr_at d text ≡ Ok (e, rest) → Takes SpellsExpr text e rest × (nesting_all e.list ≤ d)
expr_sound d text e rest h = let t = expr_found (suc (length text)) d text e rest h in (t.takes, t.within)
