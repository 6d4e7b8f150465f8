-- What a fold says of an instruction, by one level of it: the law of each definition that recurs on instructions.
use Rattle.std.proofs.Common.{◌≡◌, List, map, Option, Some, None, sym, ap, ◌∙◌}
use Rattle.wasm_form.specs.declared.instr.Instr.{Instr, fold-Instr, fold-roll-Instr, roll-Instr, out-Instr, roll-out-Instr}
use Rattle.wasm_form.specs.declared.instr.Instr.TheOpen as Open
use Rattle.wasm_form.specs.declared.instr.Expr.{Expr, fold-Expr, fold_out-Expr}

abbrev pub inside_else : {S : Type 0} → (List Instr → S) → Option Expr → Option S
inside_else f None = None
inside_else f (Some e) = Some (f e.list)

-- one level of an instruction, with a value for each list inside it
abbrev pub with_inside : {R S : Type 0} → (List Instr → S) → Open.Instr-F Instr Expr → Open.Instr-F R S
with_inside f (Open.Plain op) = Open.Plain op
with_inside f (Open.Index op n) = Open.Index op n
with_inside f (Open.Block t e) = Open.Block t (f e.list)
with_inside f (Open.Loop t e) = Open.Loop t (f e.list)
with_inside f (Open.If t e other) = Open.If t (f e.list) (inside_else f other)
with_inside f (Open.BrTable ks last) = Open.BrTable ks last
with_inside f (Open.CallIndirect ty table) = Open.CallIndirect ty table
with_inside f (Open.Select ts) = Open.Select ts
with_inside f (Open.Access op align offset) = Open.Access op align offset
with_inside f Open.MemorySize = Open.MemorySize
with_inside f Open.MemoryGrow = Open.MemoryGrow
with_inside f (Open.I32Const n) = Open.I32Const n
with_inside f (Open.I64Const n) = Open.I64Const n
with_inside f (Open.F32Const bits) = Open.F32Const bits
with_inside f (Open.F64Const bits) = Open.F64Const bits
with_inside f (Open.RefNull t) = Open.RefNull t
with_inside f (Open.Prefixed op x y) = Open.Prefixed op x y

-- a fold of instructions, and what it gives of a list of them
module _ {R S : Type 0} (here : Open.Instr-F R S → R) (inside : Open.Expr-F R S → S) (all : List Instr → S)
    (lists : (is : List Instr) → inside (record { list = map (fold-Instr R S here inside) is }) ≡ all is) where
  of_expr : (e : Expr) → fold-Expr R S here inside e ≡ all e.list
  of_expr e = fold_out-Expr R S here inside e ∙ lists e.list

  -- of an instruction that is made from one level
  pub fold_rolled : (x : Open.Instr-F Instr Expr) → fold-Instr R S here inside (roll-Instr x) ≡ here (with_inside all x)
  fold_rolled (Open.Block t e) = fold-roll-Instr R S here inside (Open.Block t e) ∙ ap (λ s. here (Open.Block t s)) (of_expr e)
  fold_rolled (Open.Loop t e) = fold-roll-Instr R S here inside (Open.Loop t e) ∙ ap (λ s. here (Open.Loop t s)) (of_expr e)
  fold_rolled (Open.If t e None) = fold-roll-Instr R S here inside (Open.If t e None) ∙ ap (λ s. here (Open.If t s None)) (of_expr e)
  fold_rolled (Open.If t e (Some other)) =
      fold-roll-Instr R S here inside (Open.If t e (Some other))
      ∙ ap (λ s. here (Open.If t s (Some (fold-Expr R S here inside other)))) (of_expr e)
      ∙ ap (λ s. here (Open.If t (all e.list) (Some s))) (of_expr other)
  fold_rolled x = fold-roll-Instr R S here inside x

  -- of any instruction, by its one level
  pub fold_level : (i : Instr) → fold-Instr R S here inside i ≡ here (with_inside all (out-Instr i))
  fold_level i = ap (fold-Instr R S here inside) (sym (roll-out-Instr i)) ∙ fold_rolled (out-Instr i)
