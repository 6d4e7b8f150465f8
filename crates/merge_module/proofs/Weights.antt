-- What renumbered parts weigh: no more than before.
use Rattle.std.proofs.Common.{◌≡◌, ℕ, suc, ◌+◌, ◌≤◌, List, [], ◌∷◌, ◌++◌, length, map, Some, None, refl, sym, ap, ap₂, ◌∙◌, subst, arith}
use Rattle.std.proofs.lemmas.List.{length-map}
use Rattle.spec_reading.specs.wasm_form.declared.instr.Instr.{Instr, map-Instr, ind-Instr, roll-Instr}
use Rattle.spec_reading.specs.wasm_form.declared.instr.Instr.TheOpen as Open
use Rattle.spec_reading.specs.wasm_form.declared.instr.Expr.{Expr}
use Rattle.spec_reading.specs.wasm_form.declared.module.ElemMode.{ElemMode}
use Rattle.spec_reading.specs.wasm_form.declared.module.ElemMode.TheVariants as elem_mode
use Rattle.spec_reading.specs.wasm_form.declared.module.ElemItems.{ElemItems}
use Rattle.spec_reading.specs.wasm_form.declared.module.ElemItems.TheVariants as elem_items
use Rattle.spec_reading.specs.wasm_form.declared.module.Elem.{Elem}
use Rattle.spec_reading.specs.wasm_form.declared.module.Code.{Code}
use Rattle.spec_reading.specs.wasm_form.declared.module.Data.{Data}
use Rattle.spec_reading.proofs.of_wasm_form.Levels.{with_inside}
use Rattle.wasm_encode.specs.Weight.{units_here, units, units_of, sum_of, expr_weight, code_weight, mode_weight, items_weight, elem_weight, data_weight}
use Rattle.wasm_encode.proofs.Units.{units_level}
use Rattle.merge_match.specs.Renumbering.{Numbers, renumbered, instr, code, expr}
use Rattle.merge_match.specs.Joined.{renumbered_code}
use Rattle.merge_match.proofs.OneLevel.{inside as with_numbers, instr_rolled}
use Rattle.merge_module.specs.MergedModule.{passive_mode, renumbered_items, passive_elem, passive_data}

-- ---- sums

pub sum_then : {A : Type 0} (weight : A → ℕ) (xs ys : List A) → sum_of weight (xs ++ ys) ≡ sum_of weight xs + sum_of weight ys
sum_then weight [] ys = omega arith
sum_then weight (x ∷ xs) ys = (let later = sum_then weight xs ys in omega arith)

-- where each weighs something, there are no more of them
pub counted : {A : Type 0} (weight : A → ℕ) → ((a : A) → 1 ≤ weight a) → (xs : List A) → length xs ≤ sum_of weight xs
counted weight some [] = omega arith
counted weight some (x ∷ xs) = (let here = some x in let later = counted weight some xs in omega arith)

-- what each of some weighs the same as, all do
pub sum_same : {A B : Type 0} (f : A → B) (one : A → ℕ) (other : B → ℕ) → ((a : A) → other (f a) ≤ one a) → (xs : List A) → sum_of other (map f xs) ≤ sum_of one xs
sum_same f one other each [] = omega arith
sum_same f one other each (x ∷ xs) = (let here = each x in let later = sum_same f one other each xs in omega arith)

-- ---- renumbered code has as many units

module _ (n : Numbers) (m : ℕ) where
  abbrev Same : Instr → Type 0
  Same i = units (instr n m i) ≡ units i

  abbrev AllSame : List Instr → Type 0
  AllSame is = units_of (code n m is) ≡ units_of is

  abbrev Inside : Open.Instr-F Instr Expr → Type 0
  Inside (Open.Block t e) = AllSame e.list
  Inside (Open.Loop t e) = AllSame e.list
  Inside (Open.If t e None) = AllSame e.list
  Inside (Open.If t e (Some other)) = AllSame e.list × AllSame other.list
  Inside _ = Unit {0}

  level_same : (x : Open.Instr-F Instr Expr) → Inside x → units_here (with_inside units_of (renumbered n m (with_numbers n m x))) ≡ units_here (with_inside units_of x)
  level_same (Open.Block t b) i = ap suc i
  level_same (Open.Loop t b) i = ap suc i
  level_same (Open.If t b None) i = ap suc i
  level_same (Open.If t b (Some other)) i = ap₂ (λ a c. suc (a + c)) i.0 i.1
  level_same (Open.Plain op) i = refl
  level_same (Open.Index op k) i = refl
  level_same (Open.BrTable ks last) i = refl
  level_same (Open.CallIndirect ty table) i = refl
  level_same (Open.Select ts) i = refl
  level_same (Open.Access op align offset) i = refl
  level_same Open.MemorySize i = refl
  level_same Open.MemoryGrow i = refl
  level_same (Open.I32Const k) i = refl
  level_same (Open.I64Const k) i = refl
  level_same (Open.F32Const bits) i = refl
  level_same (Open.F64Const bits) i = refl
  level_same (Open.RefNull t) i = refl
  level_same (Open.Prefixed op x y) i = refl

  rolled_same : (x : Open.Instr-F Instr Expr) → Inside x → Same (roll-Instr x)
  rolled_same x i = ap units (instr_rolled n m x) ∙ units_level (renumbered n m (with_numbers n m x)) ∙ level_same x i ∙ sym (units_level x)

  held : (y : Open.Instr-F ((i : Instr) × Same i) ((e : Expr) × AllSame e.list)) → Inside (map-Instr _ _ Instr Expr (λ i. i.0) (λ e. e.0) y)
  held (Open.Block t e) = e.1
  held (Open.Loop t e) = e.1
  held (Open.If t e None) = e.1
  held (Open.If t e (Some other)) = (e.1, other.1)
  held (Open.Plain op) = tt
  held (Open.Index op x) = tt
  held (Open.BrTable ks last) = tt
  held (Open.CallIndirect ty table) = tt
  held (Open.Select ts) = tt
  held (Open.Access op align offset) = tt
  held Open.MemorySize = tt
  held Open.MemoryGrow = tt
  held (Open.I32Const x) = tt
  held (Open.I64Const x) = tt
  held (Open.F32Const bits) = tt
  held (Open.F64Const bits) = tt
  held (Open.RefNull t) = tt
  held (Open.Prefixed op x y) = tt

  list_same : (is : List ((i : Instr) × Same i)) → AllSame (map (λ i. i.0) is)
  list_same [] = refl
  list_same (i ∷ is) = ap₂ (λ a c. a + c) i.1 (list_same is)

  instr_same : (i : Instr) → Same i
  instr_same = ind-Instr Same (λ e. AllSame e.list) (λ x y is. rolled_same x (subst Inside is (held y))) (λ x y is. subst (λ (z : Open.Expr-F Instr Expr). AllSame z.list) is (list_same y.list))

  pub code_same : (is : List Instr) → AllSame is
  code_same [] = refl
  code_same (i ∷ is) = ap₂ (λ a c. a + c) (instr_same i) (code_same is)

pub code_weighs : (n : Numbers) (m : ℕ) (c : Code) → code_weight (renumbered_code n m c) ≤ code_weight c
code_weighs n m c = (let same = code_same n m c.body.list in omega arith)

-- ---- segments

passive_none : (mode : ElemMode) → mode_weight (passive_mode mode) ≡ 0
passive_none (elem_mode.Active t offset) = refl
passive_none elem_mode.Passive = refl
passive_none elem_mode.Declarative = refl

items_weigh : (n : Numbers) (m : ℕ) (items : ElemItems) → items_weight (renumbered_items n m items) ≤ items_weight items
items_weigh n m (elem_items.Funcs fs) = omega (arith, length-map fs (n.named m))
items_weigh n m (elem_items.Exprs ty es) = (let all = sum_same (expr n m) expr_weight expr_weight (λ e. (let same = code_same n m e.list in omega arith)) es in omega arith)

pub elem_weighs : (n : Numbers) (m : ℕ) (e : Elem) → elem_weight (passive_elem n m e) ≤ elem_weight e
elem_weighs n m e = (let none = passive_none e.mode in let items = items_weigh n m e.items in omega arith)

pub data_weighs : (d : Data) → data_weight (passive_data d) ≤ data_weight d
data_weighs d = omega arith
