-- The typing of an instruction by its variant.
use Rattle.std.proofs.Common.{◌≡◌, ℕ, ℤ, List, [], ◌∷◌, sym, ap, ◌∙◌, Option, None, Some}
use Rattle.wasm_form.specs.declared.types.ValType.{ValType}
use Rattle.wasm_form.specs.declared.types.ValType.TheVariants.{I32, I64, FuncRef}
use Rattle.wasm_form.specs.declared.instr.BlockType.{BlockType}
use Rattle.wasm_form.specs.declared.instr.Instr.{Instr, Plain, Index, Block, Loop, If, BrTable, CallIndirect, Select, Access, MemorySize, MemoryGrow, I32Const, I64Const, F32Const, F64Const, RefNull, Prefixed, roll-Instr}
use Rattle.wasm_form.specs.declared.instr.Instr.TheOpen as Open
use Rattle.wasm_form.specs.declared.instr.Instr.TheVariants.{rolls-Plain, rolls-Index, rolls-Block, rolls-Loop, rolls-If, rolls-BrTable, rolls-CallIndirect, rolls-Select, rolls-Access, rolls-MemorySize, rolls-MemoryGrow, rolls-I32Const, rolls-I64Const, rolls-F32Const, rolls-F64Const, rolls-RefNull, rolls-Prefixed}
use Rattle.wasm_form.specs.declared.instr.Expr.{Expr}
use Rattle.wasm_form.proofs.Levels.{with_inside}
use Rattle.wasm_form.specs.Plain.{plain_form}
use Rattle.wasm_form.specs.Index.{index_form}
use Rattle.wasm_form.specs.Access.{memory_access}
use Rattle.wasm_form.specs.Second.{second_form}
use Rattle.spec_validation.specs.spec_binary.Options.{◌>>=◌}
use Rattle.spec_validation.specs.spec_binary.SameTypes.{same_type}
use Rattle.spec_validation.specs.Stacks.{Stack}
use Rattle.spec_validation.specs.Context.{Context, Labels, from_to, Gives, given, plain_shape, index_shape, indirect_shape, select_shape, access_shape, second_shape, block_type}
use Rattle.spec_validation.specs.Typing.{Meaning, typed_here, plainly, flat, tabled, nested, either_way, after, afters}
use Rattle.spec_validation.proofs.Levels.{after_rolled}
use Rattle.wasm_typing.specs.Blocks.{else_of}

typed : (c : Context) (i : Instr) (x : Open.Instr-F Instr Expr) (labels : Labels) (s : Stack) → roll-Instr x ≡ i
    → after c i labels s ≡ typed_here c (with_inside (afters c) x) labels s
typed c i x labels s e = ap (λ (j : Instr). after c j labels s) (sym e) ∙ ap (λ (m : Meaning). m labels s) (after_rolled c x)

-- ---- one law for each variant

pub after-Plain : (c : Context) (op : ℕ) (labels : Labels) (s : Stack)
    → after c (Plain op) labels s ≡ plainly (plain_form op >>= λ f. Some (plain_shape c f)) s
after-Plain c op labels s = typed c (Plain op) (Open.Plain op) labels s (rolls-Plain op)

pub after-Index : (c : Context) (op n : ℕ) (labels : Labels) (s : Stack)
    → after c (Index op n) labels s ≡ plainly (index_form op >>= λ f. index_shape c labels f n) s
after-Index c op n labels s = typed c (Index op n) (Open.Index op n) labels s (rolls-Index op n)

pub after-Block : (c : Context) (t : BlockType) (e : Expr) (labels : Labels) (s : Stack)
    → after c (Block t e) labels s ≡ (block_type c t >>= λ f. nested (afters c e.list) f.results f labels s)
after-Block c t e labels s = typed c (Block t e) (Open.Block t e) labels s (rolls-Block t e)

pub after-Loop : (c : Context) (t : BlockType) (e : Expr) (labels : Labels) (s : Stack)
    → after c (Loop t e) labels s ≡ (block_type c t >>= λ f. nested (afters c e.list) f.params f labels s)
after-Loop c t e labels s = typed c (Loop t e) (Open.Loop t e) labels s (rolls-Loop t e)

pub after-If : (c : Context) (t : BlockType) (e : Expr) (other : Option Expr) (labels : Labels) (s : Stack)
    → after c (If t e other) labels s ≡ (block_type c t >>= λ f. either_way (afters c e.list) (afters c (else_of other)) f labels s)
after-If c t e None labels s = typed c (If t e None) (Open.If t e None) labels s (rolls-If t e None)
after-If c t e (Some o) labels s = typed c (If t e (Some o)) (Open.If t e (Some o)) labels s (rolls-If t e (Some o))

pub after-BrTable : (c : Context) (ks : List ℕ) (last : ℕ) (labels : Labels) (s : Stack)
    → after c (BrTable ks last) labels s ≡ flat (tabled labels ks last s)
after-BrTable c ks last labels s = typed c (BrTable ks last) (Open.BrTable ks last) labels s (rolls-BrTable ks last)

pub after-CallIndirect : (c : Context) (ty table : ℕ) (labels : Labels) (s : Stack)
    → after c (CallIndirect ty table) labels s ≡ plainly (indirect_shape c ty table) s
after-CallIndirect c ty table labels s = typed c (CallIndirect ty table) (Open.CallIndirect ty table) labels s (rolls-CallIndirect ty table)

pub after-Select : (c : Context) (ts : List ValType) (labels : Labels) (s : Stack)
    → after c (Select ts) labels s ≡ plainly (select_shape ts) s
after-Select c ts labels s = typed c (Select ts) (Open.Select ts) labels s (rolls-Select ts)

pub after-Access : (c : Context) (op align offset : ℕ) (labels : Labels) (s : Stack)
    → after c (Access op align offset) labels s ≡ plainly (memory_access op >>= access_shape c align) s
after-Access c op align offset labels s = typed c (Access op align offset) (Open.Access op align offset) labels s
    (rolls-Access op align offset)

pub after-MemorySize : (c : Context) (labels : Labels) (s : Stack)
    → after c MemorySize labels s ≡ plainly (given c.memory (from_to [] (I32 ∷ []))) s
after-MemorySize c labels s = typed c MemorySize Open.MemorySize labels s rolls-MemorySize

pub after-MemoryGrow : (c : Context) (labels : Labels) (s : Stack)
    → after c MemoryGrow labels s ≡ plainly (given c.memory (from_to (I32 ∷ []) (I32 ∷ []))) s
after-MemoryGrow c labels s = typed c MemoryGrow Open.MemoryGrow labels s rolls-MemoryGrow

pub after-I32Const : (c : Context) (n : ℤ) (labels : Labels) (s : Stack)
    → after c (I32Const n) labels s ≡ plainly (Some (Gives (from_to [] (I32 ∷ [])))) s
after-I32Const c n labels s = typed c (I32Const n) (Open.I32Const n) labels s (rolls-I32Const n)

pub after-I64Const : (c : Context) (n : ℤ) (labels : Labels) (s : Stack)
    → after c (I64Const n) labels s ≡ plainly (Some (Gives (from_to [] (I64 ∷ [])))) s
after-I64Const c n labels s = typed c (I64Const n) (Open.I64Const n) labels s (rolls-I64Const n)

pub after-F32Const : (c : Context) (bits : ℕ) (labels : Labels) (s : Stack) → after c (F32Const bits) labels s ≡ None
after-F32Const c bits labels s = typed c (F32Const bits) (Open.F32Const bits) labels s (rolls-F32Const bits)

pub after-F64Const : (c : Context) (bits : ℕ) (labels : Labels) (s : Stack) → after c (F64Const bits) labels s ≡ None
after-F64Const c bits labels s = typed c (F64Const bits) (Open.F64Const bits) labels s (rolls-F64Const bits)

pub after-RefNull : (c : Context) (t : ValType) (labels : Labels) (s : Stack)
    → after c (RefNull t) labels s ≡ plainly (given (same_type t FuncRef) (from_to [] (FuncRef ∷ []))) s
after-RefNull c t labels s = typed c (RefNull t) (Open.RefNull t) labels s (rolls-RefNull t)

pub after-Prefixed : (c : Context) (op x y : ℕ) (labels : Labels) (s : Stack)
    → after c (Prefixed op x y) labels s ≡ plainly (second_form op >>= λ f. second_shape c f x y) s
after-Prefixed c op x y labels s = typed c (Prefixed op x y) (Open.Prefixed op x y) labels s (rolls-Prefixed op x y)

pub ruleset after_laws = (after-Plain, after-Index, after-Block, after-Loop, after-If, after-BrTable, after-CallIndirect, after-Select, after-Access, after-MemorySize, after-MemoryGrow, after-I32Const, after-I64Const, after-F32Const, after-F64Const, after-RefNull, after-Prefixed)
