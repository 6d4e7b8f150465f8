-- How much there is to write of an instruction: the measure of the writers.
use Rattle.std.proofs.Common.{◌≡◌, ℕ, ◌+◌, ◌<◌, List, [], ◌∷◌, length, map, get_or, Some, None, sym, ap, ◌∙◌, refl, arith}
use Rattle.std.specs.Prelude.{zero, suc}
use Rattle.wasm_form.specs.declared.instr.BlockType.{BlockType}
use Rattle.wasm_form.specs.declared.instr.Instr.{Instr, Block, Loop, If, fold-Instr, fold-roll-Instr}
use Rattle.wasm_form.specs.declared.instr.Instr.TheOpen as Open
use Rattle.wasm_form.specs.declared.instr.Instr.TheVariants.{rolls-Block, rolls-Loop, rolls-If}
use Rattle.wasm_form.specs.declared.instr.Expr.{Expr, fold-Expr, fold_out-Expr}

abbrev total : List ℕ → ℕ
total [] = 0
total (n ∷ ns) = suc n + total ns

abbrev weight_here : Open.Instr-F ℕ ℕ → ℕ
weight_here (Open.Block t inside) = suc inside
weight_here (Open.Loop t inside) = suc inside
weight_here (Open.If t inside None) = suc inside
weight_here (Open.If t inside (Some other)) = suc (inside + other)
weight_here _ = 0

abbrev weight_inside : Open.Expr-F ℕ ℕ → ℕ
weight_inside e = total e.list

-- the instructions in the blocks of an instruction, and those blocks
unfoldable pub weight : Instr → ℕ
weight = fold-Instr ℕ ℕ weight_here weight_inside

abbrev pub weights : List Instr → ℕ
weights [] = 0
weights (i ∷ is) = suc (weight i) + weights is

total_weights : (is : List Instr) → total (map weight is) ≡ weights is
total_weights [] = refl
total_weights (i ∷ is) = ap (λ n. suc (weight i) + n) (total_weights is)

expr_weight : (e : Expr) → fold-Expr ℕ ℕ weight_here weight_inside e ≡ weights e.list
unfolding weight
expr_weight e = fold_out-Expr ℕ ℕ weight_here weight_inside e ∙ total_weights e.list

pub weight-Block : (t : BlockType) (e : Expr) → weight (Block t e) ≡ suc (weights e.list)
unfolding weight
weight-Block t e = ap weight (sym (rolls-Block t e)) ∙ fold-roll-Instr ℕ ℕ weight_here weight_inside (Open.Block t e) ∙ ap suc (expr_weight e)

pub weight-Loop : (t : BlockType) (e : Expr) → weight (Loop t e) ≡ suc (weights e.list)
unfolding weight
weight-Loop t e = ap weight (sym (rolls-Loop t e)) ∙ fold-roll-Instr ℕ ℕ weight_here weight_inside (Open.Loop t e) ∙ ap suc (expr_weight e)

pub weight-If-alone : (t : BlockType) (e : Expr) → weight (If t e None) ≡ suc (weights e.list)
unfolding weight
weight-If-alone t e = ap weight (sym (rolls-If t e None)) ∙ fold-roll-Instr ℕ ℕ weight_here weight_inside (Open.If t e None) ∙ ap suc (expr_weight e)

pub weight-If-else : (t : BlockType) (e f : Expr) → weight (If t e (Some f)) ≡ suc (weights e.list + weights f.list)
unfolding weight
weight-If-else t e f =
    let x = expr_weight e in
    let y = expr_weight f in
    ap weight (sym (rolls-If t e (Some f))) ∙ fold-roll-Instr ℕ ℕ weight_here weight_inside (Open.If t e (Some f)) ∙ cc

-- an instruction weighs less than the list that it is in
pub one_weight : (is : List Instr) (k : ℕ) (i : Instr) → k < length is → i ≡ get_or is k i → weight i < weights is
one_weight [] k i h e = absurd (omega arith)
one_weight (x ∷ xs) zero i h e = let same = ap weight e in omega arith
one_weight (x ∷ xs) (suc k) i h e = let below : weight i < weights xs = one_weight xs k i (omega arith) e in omega arith
