-- What is not supported in an instruction, by what is inside.
use Rattle.std.proofs.Common.{◌≡◌, ℕ, ◌+◌, ℤ, Bool, not, List, refl, sym, ap, ◌∙◌, None, Some, Option, Result, Err}
use Rattle.std.specs.Prelude.{nat_le, slice_get, option_map}
use Rattle.std.specs.List.{list_all}
use Rattle.std.proofs.lemmas.Option.{slice_get-map}
use Rattle.wasm_form.specs.declared.types.FuncType.{FuncType}
use Rattle.wasm_form.specs.declared.types.ValType.{ValType}
use Rattle.wasm_form.specs.declared.instr.BlockType.{BlockType}
use Rattle.wasm_form.specs.declared.instr.Instr.{Instr, Plain, Index, Block, Loop, If, BrTable, CallIndirect, Select, Access, MemorySize, MemoryGrow, I32Const, I64Const, F32Const, F64Const, RefNull, Prefixed, roll-Instr}
use Rattle.wasm_form.specs.declared.instr.Instr.TheOpen as Open
use Rattle.wasm_form.specs.declared.instr.Instr.TheVariants.{rolls-Plain, rolls-Index, rolls-Block, rolls-Loop, rolls-If, rolls-BrTable, rolls-CallIndirect, rolls-Select, rolls-Access, rolls-MemorySize, rolls-MemoryGrow, rolls-I32Const, rolls-I64Const, rolls-F32Const, rolls-F64Const, rolls-RefNull, rolls-Prefixed}
use Rattle.wasm_form.specs.declared.instr.Expr.{Expr}
use Rattle.wasm_form.specs.declared.module.Module.{Module}
use Rattle.wasm_form.proofs.Levels.{with_inside}
use Rattle.spec_execution.specs.spec_validation.declared.fault.Place.TheVariants as place
use Rattle.spec_execution.specs.spec_validation.declared.fault.CheckFault.{CheckFault}
use Rattle.spec_execution.specs.spec_validation.declared.fault.CheckFault.TheVariants.{UnsupportedOp, UnsupportedType}
use Rattle.spec_execution.specs.spec_validation.Faults.{Finding, ◌or_else◌, unless, is_supported, is_function_supported, type_supported, is_float_opcode, block_supported, unsupported_here, unsupported, unsupported_of}
use Rattle.spec_execution.proofs.of_spec_validation.Levels.{unsupported_rolled}
use Rattle.wasm_check.specs.Answers.{IsFirst, ChecksTo}
use Rattle.wasm_check.specs.Inside.{unsupported_else, supported_or, AreSupported}
use Rattle.wasm_check.proofs.Tellings.{first_stays}

rolled : (m : Module) (n : ℕ) (i : Instr) (x : Open.Instr-F Instr Expr) → roll-Instr x ≡ i
    → unsupported m n i ≡ unsupported_here m n (with_inside (unsupported_of m n) x)
rolled m n i x e = ap (unsupported m n) (sym e) ∙ unsupported_rolled m n x

-- ---- one law for each variant

pub unsupported-Plain : (m : Module) (n : ℕ) (op : ℕ)
    → unsupported m n (Plain op) ≡ unless (not (is_float_opcode op)) (UnsupportedOp n op)
unsupported-Plain m n op = rolled m n (Plain op) (Open.Plain op) (rolls-Plain op)

pub unsupported-Index : (m : Module) (n : ℕ) (op k : ℕ) → unsupported m n (Index op k) ≡ None
unsupported-Index m n op k = rolled m n (Index op k) (Open.Index op k) (rolls-Index op k)

pub unsupported-Block : (m : Module) (n : ℕ) (t : BlockType) (e : Expr)
    → unsupported m n (Block t e) ≡ unless (block_supported m t) (UnsupportedType (place.Body n)) or_else unsupported_of m n e.list
unsupported-Block m n t e = rolled m n (Block t e) (Open.Block t e) (rolls-Block t e)

pub unsupported-Loop : (m : Module) (n : ℕ) (t : BlockType) (e : Expr)
    → unsupported m n (Loop t e) ≡ unless (block_supported m t) (UnsupportedType (place.Body n)) or_else unsupported_of m n e.list
unsupported-Loop m n t e = rolled m n (Loop t e) (Open.Loop t e) (rolls-Loop t e)

nothing_more : (f : Finding) → f or_else None ≡ f
nothing_more None = refl
nothing_more (Some x) = refl

pub unsupported-If : (m : Module) (n : ℕ) (t : BlockType) (e : Expr) (other : Option Expr)
    → unsupported m n (If t e other)
    ≡ unless (block_supported m t) (UnsupportedType (place.Body n)) or_else (unsupported_of m n e.list or_else unsupported_else m n other)
unsupported-If m n t e None =
    rolled m n (If t e None) (Open.If t e None) (rolls-If t e None)
    ∙ ap (λ f. unless (block_supported m t) (UnsupportedType (place.Body n)) or_else f) (sym (nothing_more (unsupported_of m n e.list)))
unsupported-If m n t e (Some other) = rolled m n (If t e (Some other)) (Open.If t e (Some other)) (rolls-If t e (Some other))

pub unsupported-BrTable : (m : Module) (n : ℕ) (labels : List ℕ) (last : ℕ) → unsupported m n (BrTable labels last) ≡ None
unsupported-BrTable m n labels last = rolled m n (BrTable labels last) (Open.BrTable labels last) (rolls-BrTable labels last)

pub unsupported-CallIndirect : (m : Module) (n : ℕ) (ty table : ℕ)
    → unsupported m n (CallIndirect ty table) ≡ unless (type_supported m ty) (UnsupportedType (place.Body n))
unsupported-CallIndirect m n ty table = rolled m n (CallIndirect ty table) (Open.CallIndirect ty table) (rolls-CallIndirect ty table)

pub unsupported-Select : (m : Module) (n : ℕ) (ts : List ValType)
    → unsupported m n (Select ts) ≡ unless (list_all is_supported ts) (UnsupportedType (place.Body n))
unsupported-Select m n ts = rolled m n (Select ts) (Open.Select ts) (rolls-Select ts)

pub unsupported-Access : (m : Module) (n : ℕ) (op align offset : ℕ)
    → unsupported m n (Access op align offset) ≡ unless (not (is_float_opcode op)) (UnsupportedOp n op)
unsupported-Access m n op align offset = rolled m n (Access op align offset) (Open.Access op align offset) (rolls-Access op align offset)

pub unsupported-MemorySize : (m : Module) (n : ℕ) → unsupported m n MemorySize ≡ None
unsupported-MemorySize m n = rolled m n MemorySize Open.MemorySize rolls-MemorySize

pub unsupported-MemoryGrow : (m : Module) (n : ℕ) → unsupported m n MemoryGrow ≡ None
unsupported-MemoryGrow m n = rolled m n MemoryGrow Open.MemoryGrow rolls-MemoryGrow

pub unsupported-I32Const : (m : Module) (n : ℕ) (k : ℤ) → unsupported m n (I32Const k) ≡ None
unsupported-I32Const m n k = rolled m n (I32Const k) (Open.I32Const k) (rolls-I32Const k)

pub unsupported-I64Const : (m : Module) (n : ℕ) (k : ℤ) → unsupported m n (I64Const k) ≡ None
unsupported-I64Const m n k = rolled m n (I64Const k) (Open.I64Const k) (rolls-I64Const k)

pub unsupported-F32Const : (m : Module) (n : ℕ) (bits : ℕ) → unsupported m n (F32Const bits) ≡ Some (UnsupportedOp n 0x43)
unsupported-F32Const m n bits = rolled m n (F32Const bits) (Open.F32Const bits) (rolls-F32Const bits)

pub unsupported-F64Const : (m : Module) (n : ℕ) (bits : ℕ) → unsupported m n (F64Const bits) ≡ Some (UnsupportedOp n 0x44)
unsupported-F64Const m n bits = rolled m n (F64Const bits) (Open.F64Const bits) (rolls-F64Const bits)

pub unsupported-RefNull : (m : Module) (n : ℕ) (t : ValType)
    → unsupported m n (RefNull t) ≡ unless (is_supported t) (UnsupportedType (place.Body n))
unsupported-RefNull m n t = rolled m n (RefNull t) (Open.RefNull t) (rolls-RefNull t)

pub unsupported-Prefixed : (m : Module) (n : ℕ) (op x y : ℕ)
    → unsupported m n (Prefixed op x y) ≡ unless (nat_le 8 op) (UnsupportedOp n (0xFC00 + op))
unsupported-Prefixed m n op x y = rolled m n (Prefixed op x y) (Open.Prefixed op x y) (rolls-Prefixed op x y)

pub ruleset unsupported_laws = (unsupported-Plain, unsupported-Index, unsupported-Block, unsupported-Loop, unsupported-If, unsupported-BrTable, unsupported-CallIndirect, unsupported-Select, unsupported-Access, unsupported-MemorySize, unsupported-MemoryGrow, unsupported-I32Const, unsupported-I64Const, unsupported-F32Const, unsupported-F64Const, unsupported-RefNull, unsupported-Prefixed)

-- the last of the three findings of an `if`
pub if_tells : (result : Result Unit CheckFault) (m : Module) (n : ℕ) (i : Instr) (t : BlockType) (e : Expr) (other : Option Expr)
    (is : List Instr) → i ≡ If t e other → is ≡ e.list
    → unless (block_supported m t) (UnsupportedType (place.Body n)) ≡ None → unsupported_of m n is ≡ None
    → ChecksTo result (unsupported_else m n other) → ChecksTo result (unsupported m n i)
if_tells result m n i t e other is ei es b s h = rw (ei, unsupported-If m n t e other, b, ← es, s) h

-- the second finding of an `if`
pub if_fails : (result : Result Unit CheckFault) (fault : CheckFault) (m : Module) (n : ℕ) (i : Instr) (t : BlockType) (e : Expr)
    (other : Option Expr) (is : List Instr) → result ≡ Err fault → i ≡ If t e other → is ≡ e.list
    → unless (block_supported m t) (UnsupportedType (place.Body n)) ≡ None → IsFirst fault (unsupported_of m n is)
    → ChecksTo result (unsupported m n i)
if_fails result fault m n i t e other is er ei es b h =
    rw (er, ei, unsupported-If m n t e other, b, ← es) (first_stays fault (unsupported_of m n is) (unsupported_else m n other) h)

-- a look-up among the types
pub type_at : (m : Module) (types : List Bool) (t : ℕ) → AreSupported m types → supported_or (slice_get types t) ≡ type_supported m t
type_at m types t are = rw (are.told, slice_get-map is_function_supported m.types t) (go (slice_get m.types t) refl)
  where
    go : (f : Option FuncType) → slice_get m.types t ≡ f → supported_or (option_map is_function_supported f) ≡ type_supported m t
    go None e = rw e refl
    go (Some f) e = rw e refl
