-- Renumbered code has the forms of the binary format where the code has them, and as many blocks nested.
use Rattle.std.proofs.Common.{◌≡◌, ℕ, suc, max, Bool, true, false, ◌&&◌, nat_eq, List, [], ◌∷◌, map, Some, None, refl, sym, ap, ap₂, ◌∙◌, subst}
use Rattle.std.proofs.lemmas.Bool.{and_parts, and_from, eqb-true}
use Rattle.spec_reading.specs.wasm_form.declared.instr.Instr.{Instr, roll-Instr, map-Instr, ind-Instr}
use Rattle.spec_reading.specs.wasm_form.declared.instr.Instr.TheOpen as Open
use Rattle.spec_reading.specs.wasm_form.declared.instr.Expr.{Expr}
use Rattle.spec_reading.specs.wasm_form.Second.{second_form}
use Rattle.spec_reading.proofs.of_wasm_form.Levels.{with_inside, fold_rolled}
use Rattle.spec_reading.specs.spec_binary.Trees.{greatest, nesting_here, nesting_inside, nesting, nesting_all, all_true, Test, every_here, every_inside, every, every_of}
use Rattle.spec_reading.specs.spec_binary.WellFormed.{has_form}
use Rattle.merge_match.specs.Renumbering.{Numbers, first_in, second_in, renumbered, instr, code}
use Rattle.merge_match.proofs.OneLevel.{inside as with_numbers, instr_rolled}

greatest_nesting : (is : List Instr) → greatest (map nesting is) ≡ nesting_all is
greatest_nesting [] = refl
greatest_nesting (i ∷ is) = ap (max (nesting i)) (greatest_nesting is)

pub nesting_level : (x : Open.Instr-F Instr Expr) → nesting (roll-Instr x) ≡ nesting_here (with_inside nesting_all x)
unfolding nesting
nesting_level x = fold_rolled nesting_here nesting_inside nesting_all greatest_nesting x

all_every : (test : Test) (is : List Instr) → all_true (map (every test) is) ≡ every_of test is
all_every test [] = refl
all_every test (i ∷ is) = ap (λ b. every test i && b) (all_every test is)

pub every_level : (test : Test) (x : Open.Instr-F Instr Expr) → every test (roll-Instr x) ≡ every_here test (with_inside (every_of test) x)
unfolding every
every_level test x = fold_rolled (every_here test) every_inside (every_of test) (all_every test) x

module _ (n : Numbers) (m : ℕ) where
  -- ---- instructions with a second opcode

  abbrev Second : ℕ → Type 0
  Second op = (x y : ℕ) → has_form (Open.Prefixed op x y) ≡ true → has_form (Open.Prefixed op (first_in n m (second_form op) x) (second_in n m (second_form op) y)) ≡ true

  at_op : (op k : ℕ) → nat_eq op k ≡ true → Second k → Second op
  at_op op k q held = subst Second (sym (eqb-true op k q)) held

  second_kept : (op : ℕ) → Second op
  second_kept op = by_8 (nat_eq op 8) refl
    where
      last : nat_eq op 8 ≡ false → nat_eq op 9 ≡ false → nat_eq op 10 ≡ false → nat_eq op 11 ≡ false → nat_eq op 12 ≡ false → nat_eq op 13 ≡ false
          → nat_eq op 14 ≡ false → nat_eq op 15 ≡ false → nat_eq op 16 ≡ false → nat_eq op 17 ≡ false → Second op
      last a b c d e f g h i j x y held = (let none : second_form op ≡ None = rw (a, b, c, d, e, f, g, h, i, j) refl in rw none held)

      by_17 : nat_eq op 8 ≡ false → nat_eq op 9 ≡ false → nat_eq op 10 ≡ false → nat_eq op 11 ≡ false → nat_eq op 12 ≡ false → nat_eq op 13 ≡ false
          → nat_eq op 14 ≡ false → nat_eq op 15 ≡ false → nat_eq op 16 ≡ false → (b : Bool) → nat_eq op 17 ≡ b → Second op
      by_17 a b c d e f g h i true q = at_op op 17 q (λ x y held. held)
      by_17 a b c d e f g h i false q = last a b c d e f g h i q

      by_16 : nat_eq op 8 ≡ false → nat_eq op 9 ≡ false → nat_eq op 10 ≡ false → nat_eq op 11 ≡ false → nat_eq op 12 ≡ false → nat_eq op 13 ≡ false
          → nat_eq op 14 ≡ false → nat_eq op 15 ≡ false → (b : Bool) → nat_eq op 16 ≡ b → Second op
      by_16 a b c d e f g h true q = at_op op 16 q (λ x y held. held)
      by_16 a b c d e f g h false q = by_17 a b c d e f g h q (nat_eq op 17) refl

      by_15 : nat_eq op 8 ≡ false → nat_eq op 9 ≡ false → nat_eq op 10 ≡ false → nat_eq op 11 ≡ false → nat_eq op 12 ≡ false → nat_eq op 13 ≡ false
          → nat_eq op 14 ≡ false → (b : Bool) → nat_eq op 15 ≡ b → Second op
      by_15 a b c d e f g true q = at_op op 15 q (λ x y held. held)
      by_15 a b c d e f g false q = by_16 a b c d e f g q (nat_eq op 16) refl

      by_14 : nat_eq op 8 ≡ false → nat_eq op 9 ≡ false → nat_eq op 10 ≡ false → nat_eq op 11 ≡ false → nat_eq op 12 ≡ false → nat_eq op 13 ≡ false
          → (b : Bool) → nat_eq op 14 ≡ b → Second op
      by_14 a b c d e f true q = at_op op 14 q (λ x y held. held)
      by_14 a b c d e f false q = by_15 a b c d e f q (nat_eq op 15) refl

      by_13 : nat_eq op 8 ≡ false → nat_eq op 9 ≡ false → nat_eq op 10 ≡ false → nat_eq op 11 ≡ false → nat_eq op 12 ≡ false → (b : Bool) → nat_eq op 13 ≡ b → Second op
      by_13 a b c d e true q = at_op op 13 q (λ x y held. held)
      by_13 a b c d e false q = by_14 a b c d e q (nat_eq op 14) refl

      by_12 : nat_eq op 8 ≡ false → nat_eq op 9 ≡ false → nat_eq op 10 ≡ false → nat_eq op 11 ≡ false → (b : Bool) → nat_eq op 12 ≡ b → Second op
      by_12 a b c d true q = at_op op 12 q (λ x y held. held)
      by_12 a b c d false q = by_13 a b c d q (nat_eq op 13) refl

      by_11 : nat_eq op 8 ≡ false → nat_eq op 9 ≡ false → nat_eq op 10 ≡ false → (b : Bool) → nat_eq op 11 ≡ b → Second op
      by_11 a b c true q = at_op op 11 q (λ x y held. held)
      by_11 a b c false q = by_12 a b c q (nat_eq op 12) refl

      by_10 : nat_eq op 8 ≡ false → nat_eq op 9 ≡ false → (b : Bool) → nat_eq op 10 ≡ b → Second op
      by_10 a b true q = at_op op 10 q (λ x y held. held)
      by_10 a b false q = by_11 a b q (nat_eq op 11) refl

      by_9 : nat_eq op 8 ≡ false → (b : Bool) → nat_eq op 9 ≡ b → Second op
      by_9 a true q = at_op op 9 q (λ x y held. held)
      by_9 a false q = by_10 a q (nat_eq op 10) refl

      by_8 : (b : Bool) → nat_eq op 8 ≡ b → Second op
      by_8 true q = at_op op 8 q (λ x y held. held)
      by_8 false q = by_9 q (nat_eq op 9) refl

  -- ---- each instruction

  pub record Kept (i : Instr) : Type 0 where
    pub formed : every has_form i ≡ true → every has_form (instr n m i) ≡ true
    pub nested : nesting (instr n m i) ≡ nesting i

  pub record AllKept (is : List Instr) : Type 0 where
    pub formed : every_of has_form is ≡ true → every_of has_form (code n m is) ≡ true
    pub nested : nesting_all (code n m is) ≡ nesting_all is

  abbrev ExprKept : Expr → Type 0
  ExprKept e = AllKept e.list

  abbrev Inside : Open.Instr-F Instr Expr → Type 0
  Inside (Open.Block t e) = ExprKept e
  Inside (Open.Loop t e) = ExprKept e
  Inside (Open.If t e None) = ExprKept e
  Inside (Open.If t e (Some other)) = ExprKept e × ExprKept other
  Inside _ = Unit {0}

  abbrev here : Open.Instr-F Instr Expr → Bool
  here x = every_here has_form (with_inside (every_of has_form) x)

  abbrev there : Open.Instr-F Instr Expr → Bool
  there x = every_here has_form (with_inside (every_of has_form) (renumbered n m (with_numbers n m x)))

  level_formed : (x : Open.Instr-F Instr Expr) → Inside x → here x ≡ true → there x ≡ true
  level_formed (Open.Plain op) i e = e
  level_formed (Open.Index op k) i e = e
  level_formed (Open.Block t b) i e = i.formed e
  level_formed (Open.Loop t b) i e = i.formed e
  level_formed (Open.If t b None) i e = i.formed e
  level_formed (Open.If t b (Some other)) i e =
      let both = and_parts (every_of has_form b.list) (every_of has_form other.list) e in
      and_from (every_of has_form (code n m b.list)) (every_of has_form (code n m other.list)) (i.0.formed both.0) (i.1.formed both.1)
  level_formed (Open.BrTable ks last) i e = e
  level_formed (Open.CallIndirect ty table) i e = e
  level_formed (Open.Select ts) i e = e
  level_formed (Open.Access op align offset) i e = e
  level_formed Open.MemorySize i e = e
  level_formed Open.MemoryGrow i e = e
  level_formed (Open.I32Const k) i e = e
  level_formed (Open.I64Const k) i e = e
  level_formed (Open.F32Const bits) i e = e
  level_formed (Open.F64Const bits) i e = e
  level_formed (Open.RefNull t) i e = e
  level_formed (Open.Prefixed op x y) i e = second_kept op x y e

  level_nested : (x : Open.Instr-F Instr Expr) → Inside x
      → nesting_here (with_inside nesting_all (renumbered n m (with_numbers n m x))) ≡ nesting_here (with_inside nesting_all x)
  level_nested (Open.Block t b) i = ap suc i.nested
  level_nested (Open.Loop t b) i = ap suc i.nested
  level_nested (Open.If t b None) i = ap suc i.nested
  level_nested (Open.If t b (Some other)) i = ap₂ (λ a c. suc (max a c)) i.0.nested i.1.nested
  level_nested (Open.Plain op) i = refl
  level_nested (Open.Index op k) i = refl
  level_nested (Open.BrTable ks last) i = refl
  level_nested (Open.CallIndirect ty table) i = refl
  level_nested (Open.Select ts) i = refl
  level_nested (Open.Access op align offset) i = refl
  level_nested Open.MemorySize i = refl
  level_nested Open.MemoryGrow i = refl
  level_nested (Open.I32Const k) i = refl
  level_nested (Open.I64Const k) i = refl
  level_nested (Open.F32Const bits) i = refl
  level_nested (Open.F64Const bits) i = refl
  level_nested (Open.RefNull t) i = refl
  level_nested (Open.Prefixed op x y) i = refl

  rolled_kept : (x : Open.Instr-F Instr Expr) → Inside x → Kept (roll-Instr x)
  rolled_kept x i = record {
    formed = λ e. ap (every has_form) (instr_rolled n m x) ∙ every_level has_form (renumbered n m (with_numbers n m x)) ∙ level_formed x i (sym (every_level has_form x) ∙ e);
    nested = ap nesting (instr_rolled n m x) ∙ nesting_level (renumbered n m (with_numbers n m x)) ∙ level_nested x i ∙ sym (nesting_level x);
  }

  held : (y : Open.Instr-F ((i : Instr) × Kept i) ((e : Expr) × ExprKept e)) → Inside (map-Instr _ _ Instr Expr (λ i. i.0) (λ e. e.0) y)
  held (Open.Block t e) = e.1
  held (Open.Loop t e) = e.1
  held (Open.If t e None) = e.1
  held (Open.If t e (Some other)) = (e.1, other.1)
  held (Open.Plain op) = tt
  held (Open.Index op x) = tt
  held (Open.BrTable ks last) = tt
  held (Open.CallIndirect ty table) = tt
  held (Open.Select ts) = tt
  held (Open.Access op align offset) = tt
  held Open.MemorySize = tt
  held Open.MemoryGrow = tt
  held (Open.I32Const x) = tt
  held (Open.I64Const x) = tt
  held (Open.F32Const bits) = tt
  held (Open.F64Const bits) = tt
  held (Open.RefNull t) = tt
  held (Open.Prefixed op x y) = tt

  one_more : (i : Instr) (is : List Instr) → Kept i → AllKept is → AllKept (i ∷ is)
  one_more i is one rest = record {
    formed = λ e. (let both = and_parts (every has_form i) (every_of has_form is) e in and_from (every has_form (instr n m i)) (every_of has_form (code n m is)) (one.formed both.0) (rest.formed both.1));
    nested = ap₂ max one.nested rest.nested;
  }

  list_kept : (is : List ((i : Instr) × Kept i)) → AllKept (map (λ i. i.0) is)
  list_kept [] = record { formed = λ e. e; nested = refl }
  list_kept (i ∷ is) = one_more i.0 (map (λ i. i.0) is) i.1 (list_kept is)

  instr_kept : (i : Instr) → Kept i
  instr_kept = ind-Instr Kept ExprKept (λ x y is. rolled_kept x (subst Inside is (held y))) (λ x y is. subst (λ (z : Open.Expr-F Instr Expr). AllKept z.list) is (list_kept y.list))

  pub code_kept : (is : List Instr) → AllKept is
  code_kept [] = record { formed = λ e. e; nested = refl }
  code_kept (i ∷ is) = one_more i is (instr_kept i) (code_kept is)
