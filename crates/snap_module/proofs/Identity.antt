-- Code with each number kept is the code.
use Rattle.std.proofs.Common.{◌≡◌, ℕ, List, [], ◌∷◌, map, Option, Some, None, refl, ap, ap₂, ◌∙◌, subst}
use Rattle.spec_loading.specs.wasm_form.declared.instr.BlockType.{BlockType}
use Rattle.spec_loading.specs.wasm_form.declared.instr.BlockType.TheVariants as block
use Rattle.spec_loading.specs.wasm_form.declared.instr.Instr.{Instr, roll-Instr, map-Instr, ind-Instr}
use Rattle.spec_loading.specs.wasm_form.declared.instr.Instr.TheOpen as Open
use Rattle.spec_loading.specs.wasm_form.declared.instr.Expr.{Expr}
use Rattle.spec_loading.specs.wasm_form.declared.index.IndexForm.{IndexForm}
use Rattle.spec_loading.specs.wasm_form.declared.index.IndexForm.TheVariants as index
use Rattle.spec_loading.specs.wasm_form.declared.second.SecondForm.{SecondForm}
use Rattle.spec_loading.specs.wasm_form.declared.second.SecondForm.TheVariants as second
use Rattle.spec_loading.specs.wasm_form.Index.{index_form}
use Rattle.spec_loading.specs.wasm_form.Second.{second_form}
use Rattle.merge_match.specs.Renumbering.{Numbers, index_in, first_in, second_in, block_type, renumbered, instr, code}
use Rattle.merge_match.proofs.OneLevel.{inside, instr_rolled}

-- each number is kept
abbrev pub kept : Numbers
kept = record { function = λ r. 0; named = λ m f. f; ty = λ m t. t; global = λ m g. g; table = λ m t. t; elem = λ m e. e; segment = λ m d. d }

index_kept : (form : Option IndexForm) (k : ℕ) → index_in kept 0 form k ≡ k
index_kept None k = refl
index_kept (Some index.Br) k = refl
index_kept (Some index.BrIf) k = refl
index_kept (Some index.Call) k = refl
index_kept (Some index.LocalGet) k = refl
index_kept (Some index.LocalSet) k = refl
index_kept (Some index.LocalTee) k = refl
index_kept (Some index.GlobalGet) k = refl
index_kept (Some index.GlobalSet) k = refl
index_kept (Some index.TableGet) k = refl
index_kept (Some index.TableSet) k = refl
index_kept (Some index.RefFunc) k = refl

first_kept : (form : Option SecondForm) (x : ℕ) → first_in kept 0 form x ≡ x
first_kept None x = refl
first_kept (Some second.MemoryInit) x = refl
first_kept (Some second.DataDrop) x = refl
first_kept (Some second.MemoryCopy) x = refl
first_kept (Some second.MemoryFill) x = refl
first_kept (Some second.TableInit) x = refl
first_kept (Some second.ElemDrop) x = refl
first_kept (Some second.TableCopy) x = refl
first_kept (Some second.TableGrow) x = refl
first_kept (Some second.TableSize) x = refl
first_kept (Some second.TableFill) x = refl

second_kept : (form : Option SecondForm) (y : ℕ) → second_in kept 0 form y ≡ y
second_kept None y = refl
second_kept (Some second.MemoryInit) y = refl
second_kept (Some second.DataDrop) y = refl
second_kept (Some second.MemoryCopy) y = refl
second_kept (Some second.MemoryFill) y = refl
second_kept (Some second.TableInit) y = refl
second_kept (Some second.ElemDrop) y = refl
second_kept (Some second.TableCopy) y = refl
second_kept (Some second.TableGrow) y = refl
second_kept (Some second.TableSize) y = refl
second_kept (Some second.TableFill) y = refl

block_kept : (t : BlockType) → block_type kept 0 t ≡ t
block_kept block.Empty = refl
block_kept (block.Value t) = refl
block_kept (block.Index k) = refl

abbrev Same : Instr → Type 0
Same i = instr kept 0 i ≡ i

abbrev AllSame : Expr → Type 0
AllSame e = code kept 0 e.list ≡ e.list

-- what is so of each expression inside an instruction
abbrev Inside : Open.Instr-F Instr Expr → Type 0
Inside (Open.Block t e) = AllSame e
Inside (Open.Loop t e) = AllSame e
Inside (Open.If t e None) = AllSame e
Inside (Open.If t e (Some other)) = AllSame e × AllSame other
Inside _ = Unit {0}

expr_same : (e : Expr) → AllSame e → (let x : Expr = record { list = code kept 0 e.list } in x) ≡ e
expr_same e same = λ i. record { list = same i }

level_same : (x : Open.Instr-F Instr Expr) → Inside x → renumbered kept 0 (inside kept 0 x) ≡ x
level_same (Open.Plain op) i = refl
level_same (Open.Index op k) i = ap (Open.Index op) (index_kept (index_form op) k)
level_same (Open.Block t e) i = ap₂ Open.Block (block_kept t) (expr_same e i)
level_same (Open.Loop t e) i = ap₂ Open.Loop (block_kept t) (expr_same e i)
level_same (Open.If t e None) i = ap₂ (λ a b. Open.If a b None) (block_kept t) (expr_same e i)
level_same (Open.If t e (Some other)) i =
    ap₂ (λ a b. Open.If a b (Some (record { list = code kept 0 other.list }))) (block_kept t) (expr_same e i.0) ∙ ap (λ b. Open.If t e (Some b)) (expr_same other i.1)
level_same (Open.BrTable ks last) i = refl
level_same (Open.CallIndirect ty table) i = refl
level_same (Open.Select ts) i = refl
level_same (Open.Access op align offset) i = refl
level_same Open.MemorySize i = refl
level_same Open.MemoryGrow i = refl
level_same (Open.I32Const k) i = refl
level_same (Open.I64Const k) i = refl
level_same (Open.F32Const bits) i = refl
level_same (Open.F64Const bits) i = refl
level_same (Open.RefNull t) i = refl
level_same (Open.Prefixed op x y) i = ap₂ (Open.Prefixed op) (first_kept (second_form op) x) (second_kept (second_form op) y)

held : (y : Open.Instr-F ((i : Instr) × Same i) ((e : Expr) × AllSame e)) → Inside (map-Instr _ _ Instr Expr (λ i. i.0) (λ e. e.0) y)
held (Open.Block t e) = e.1
held (Open.Loop t e) = e.1
held (Open.If t e None) = e.1
held (Open.If t e (Some other)) = (e.1, other.1)
held (Open.Plain op) = tt
held (Open.Index op k) = tt
held (Open.BrTable ks last) = tt
held (Open.CallIndirect ty table) = tt
held (Open.Select ts) = tt
held (Open.Access op align offset) = tt
held Open.MemorySize = tt
held Open.MemoryGrow = tt
held (Open.I32Const k) = tt
held (Open.I64Const k) = tt
held (Open.F32Const bits) = tt
held (Open.F64Const bits) = tt
held (Open.RefNull t) = tt
held (Open.Prefixed op x y) = tt

list_same : (is : List ((i : Instr) × Same i)) → code kept 0 (map (λ i. i.0) is) ≡ map (λ i. i.0) is
list_same [] = refl
list_same (i ∷ is) = ap₂ (λ a l. a ∷ l) i.1 (list_same is)

abbrev ListSame : Open.Expr-F Instr Expr → Type 0
ListSame x = code kept 0 x.list ≡ x.list

instr_same : (i : Instr) → Same i
instr_same = ind-Instr Same AllSame (λ x y is. instr_rolled kept 0 x ∙ ap roll-Instr (level_same x (subst Inside is (held y)))) (λ x y is. subst ListSame is (list_same y.list))

pub code_same : (is : List Instr) → code kept 0 is ≡ is
code_same [] = refl
code_same (i ∷ is) = ap₂ (λ a l. a ∷ l) (instr_same i) (code_same is)
