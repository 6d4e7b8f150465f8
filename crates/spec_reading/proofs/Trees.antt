-- Each instruction's nesting, and each test of instructions, by what is inside.
use Rattle.std.proofs.Common.{◌≡◌, ℕ, suc, max, ℤ, ◌&&◌, List, [], ◌∷◌, map, refl, sym, ap, ◌∙◌, None, Some}
use Rattle.spec_binary.specs.wasm_form.declared.types.ValType.{ValType}
use Rattle.spec_binary.specs.wasm_form.declared.instr.BlockType.{BlockType}
use Rattle.spec_binary.specs.wasm_form.declared.instr.Instr.{Instr, Plain, Index, Block, Loop, If, BrTable, CallIndirect, Select, Access, MemorySize, MemoryGrow, I32Const, I64Const, F32Const, F64Const, RefNull, Prefixed, roll-Instr}
use Rattle.spec_binary.specs.wasm_form.declared.instr.Instr.TheOpen as Open
use Rattle.spec_binary.specs.wasm_form.declared.instr.Instr.TheVariants.{rolls-Plain, rolls-Index, rolls-Block, rolls-Loop, rolls-If, rolls-BrTable, rolls-CallIndirect, rolls-Select, rolls-Access, rolls-MemorySize, rolls-MemoryGrow, rolls-I32Const, rolls-I64Const, rolls-F32Const, rolls-F64Const, rolls-RefNull, rolls-Prefixed}
use Rattle.spec_binary.specs.wasm_form.declared.instr.Expr.{Expr}
use Rattle.spec_binary.proofs.of_wasm_form.Levels.{with_inside, fold_rolled}
use Rattle.spec_binary.specs.Trees.{greatest, nesting_here, nesting_inside, nesting, nesting_all, all_true, Test, every_here, every_inside, every, every_of}

greatest_nesting : (is : List Instr) → greatest (map nesting is) ≡ nesting_all is
greatest_nesting [] = refl
greatest_nesting (i ∷ is) = ap (max (nesting i)) (greatest_nesting is)

nesting_of : (x : Open.Instr-F Instr Expr) {i : Instr} → roll-Instr x ≡ i → nesting i ≡ nesting_here (with_inside nesting_all x)
unfolding nesting
nesting_of x e = ap nesting (sym e) ∙ fold_rolled nesting_here nesting_inside nesting_all greatest_nesting x

pub nesting-Block : (t : BlockType) (e : Expr) → nesting (Block t e) ≡ suc (nesting_all e.list)
nesting-Block t e = nesting_of (Open.Block t e) (rolls-Block t e)

pub nesting-Loop : (t : BlockType) (e : Expr) → nesting (Loop t e) ≡ suc (nesting_all e.list)
nesting-Loop t e = nesting_of (Open.Loop t e) (rolls-Loop t e)

pub nesting-If-alone : (t : BlockType) (e : Expr) → nesting (If t e None) ≡ suc (nesting_all e.list)
nesting-If-alone t e = nesting_of (Open.If t e None) (rolls-If t e None)

pub nesting-If-else : (t : BlockType) (e f : Expr) → nesting (If t e (Some f)) ≡ suc (max (nesting_all e.list) (nesting_all f.list))
nesting-If-else t e f = nesting_of (Open.If t e (Some f)) (rolls-If t e (Some f))

pub nesting-Plain : (op : ℕ) → nesting (Plain op) ≡ 0
nesting-Plain op = nesting_of (Open.Plain op) (rolls-Plain op)

pub nesting-Index : (op n : ℕ) → nesting (Index op n) ≡ 0
nesting-Index op n = nesting_of (Open.Index op n) (rolls-Index op n)

pub nesting-BrTable : (labels : List ℕ) (last : ℕ) → nesting (BrTable labels last) ≡ 0
nesting-BrTable labels last = nesting_of (Open.BrTable labels last) (rolls-BrTable labels last)

pub nesting-CallIndirect : (ty table : ℕ) → nesting (CallIndirect ty table) ≡ 0
nesting-CallIndirect ty table = nesting_of (Open.CallIndirect ty table) (rolls-CallIndirect ty table)

pub nesting-Select : (ts : List ValType) → nesting (Select ts) ≡ 0
nesting-Select ts = nesting_of (Open.Select ts) (rolls-Select ts)

pub nesting-Access : (op align offset : ℕ) → nesting (Access op align offset) ≡ 0
nesting-Access op align offset = nesting_of (Open.Access op align offset) (rolls-Access op align offset)

pub nesting-MemorySize : nesting MemorySize ≡ 0
nesting-MemorySize = nesting_of Open.MemorySize rolls-MemorySize

pub nesting-MemoryGrow : nesting MemoryGrow ≡ 0
nesting-MemoryGrow = nesting_of Open.MemoryGrow rolls-MemoryGrow

pub nesting-I32Const : (n : ℤ) → nesting (I32Const n) ≡ 0
nesting-I32Const n = nesting_of (Open.I32Const n) (rolls-I32Const n)

pub nesting-I64Const : (n : ℤ) → nesting (I64Const n) ≡ 0
nesting-I64Const n = nesting_of (Open.I64Const n) (rolls-I64Const n)

pub nesting-F32Const : (bits : ℕ) → nesting (F32Const bits) ≡ 0
nesting-F32Const bits = nesting_of (Open.F32Const bits) (rolls-F32Const bits)

pub nesting-F64Const : (bits : ℕ) → nesting (F64Const bits) ≡ 0
nesting-F64Const bits = nesting_of (Open.F64Const bits) (rolls-F64Const bits)

pub nesting-RefNull : (t : ValType) → nesting (RefNull t) ≡ 0
nesting-RefNull t = nesting_of (Open.RefNull t) (rolls-RefNull t)

pub nesting-Prefixed : (op a b : ℕ) → nesting (Prefixed op a b) ≡ 0
nesting-Prefixed op a b = nesting_of (Open.Prefixed op a b) (rolls-Prefixed op a b)

all_every : (test : Test) (is : List Instr) → all_true (map (every test) is) ≡ every_of test is
all_every test [] = refl
all_every test (i ∷ is) = ap (λ b. every test i && b) (all_every test is)

every_at : (test : Test) (x : Open.Instr-F Instr Expr) {i : Instr} → roll-Instr x ≡ i → every test i ≡ every_here test (with_inside (every_of test) x)
unfolding every
every_at test x e = ap (every test) (sym e) ∙ fold_rolled (every_here test) every_inside (every_of test) (all_every test) x

pub every-Block : (test : Test) (t : BlockType) (e : Expr) → every test (Block t e) ≡ test (Open.Block t (every_of test e.list)) && every_of test e.list
every-Block test t e = every_at test (Open.Block t e) (rolls-Block t e)

pub every-Loop : (test : Test) (t : BlockType) (e : Expr) → every test (Loop t e) ≡ test (Open.Loop t (every_of test e.list)) && every_of test e.list
every-Loop test t e = every_at test (Open.Loop t e) (rolls-Loop t e)

pub every-If-alone : (test : Test) (t : BlockType) (e : Expr) → every test (If t e None) ≡ test (Open.If t (every_of test e.list) None) && every_of test e.list
every-If-alone test t e = every_at test (Open.If t e None) (rolls-If t e None)

pub every-If-else : (test : Test) (t : BlockType) (e f : Expr) → every test (If t e (Some f)) ≡ test (Open.If t (every_of test e.list) (Some (every_of test f.list))) && (every_of test e.list && every_of test f.list)
every-If-else test t e f = every_at test (Open.If t e (Some f)) (rolls-If t e (Some f))

pub every-Plain : (test : Test) (op : ℕ) → every test (Plain op) ≡ test (Open.Plain op)
every-Plain test op = every_at test (Open.Plain op) (rolls-Plain op)

pub every-Index : (test : Test) (op n : ℕ) → every test (Index op n) ≡ test (Open.Index op n)
every-Index test op n = every_at test (Open.Index op n) (rolls-Index op n)

pub every-BrTable : (test : Test) (labels : List ℕ) (last : ℕ) → every test (BrTable labels last) ≡ test (Open.BrTable labels last)
every-BrTable test labels last = every_at test (Open.BrTable labels last) (rolls-BrTable labels last)

pub every-CallIndirect : (test : Test) (ty table : ℕ) → every test (CallIndirect ty table) ≡ test (Open.CallIndirect ty table)
every-CallIndirect test ty table = every_at test (Open.CallIndirect ty table) (rolls-CallIndirect ty table)

pub every-Select : (test : Test) (ts : List ValType) → every test (Select ts) ≡ test (Open.Select ts)
every-Select test ts = every_at test (Open.Select ts) (rolls-Select ts)

pub every-Access : (test : Test) (op align offset : ℕ) → every test (Access op align offset) ≡ test (Open.Access op align offset)
every-Access test op align offset = every_at test (Open.Access op align offset) (rolls-Access op align offset)

pub every-MemorySize : (test : Test) → every test MemorySize ≡ test Open.MemorySize
every-MemorySize test = every_at test Open.MemorySize rolls-MemorySize

pub every-MemoryGrow : (test : Test) → every test MemoryGrow ≡ test Open.MemoryGrow
every-MemoryGrow test = every_at test Open.MemoryGrow rolls-MemoryGrow

pub every-I32Const : (test : Test) (n : ℤ) → every test (I32Const n) ≡ test (Open.I32Const n)
every-I32Const test n = every_at test (Open.I32Const n) (rolls-I32Const n)

pub every-I64Const : (test : Test) (n : ℤ) → every test (I64Const n) ≡ test (Open.I64Const n)
every-I64Const test n = every_at test (Open.I64Const n) (rolls-I64Const n)

pub every-F32Const : (test : Test) (bits : ℕ) → every test (F32Const bits) ≡ test (Open.F32Const bits)
every-F32Const test bits = every_at test (Open.F32Const bits) (rolls-F32Const bits)

pub every-F64Const : (test : Test) (bits : ℕ) → every test (F64Const bits) ≡ test (Open.F64Const bits)
every-F64Const test bits = every_at test (Open.F64Const bits) (rolls-F64Const bits)

pub every-RefNull : (test : Test) (t : ValType) → every test (RefNull t) ≡ test (Open.RefNull t)
every-RefNull test t = every_at test (Open.RefNull t) (rolls-RefNull t)

pub every-Prefixed : (test : Test) (op a b : ℕ) → every test (Prefixed op a b) ≡ test (Open.Prefixed op a b)
every-Prefixed test op a b = every_at test (Open.Prefixed op a b) (rolls-Prefixed op a b)
