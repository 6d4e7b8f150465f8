-- Pieces of generated code: each instruction has its form and is supported, few blocks are nested, and there are not too many instructions.
use Rattle.std.proofs.Common.{◌≡◌, ◌≤◌, ℕ, suc, ◌+◌, true, List, [], ◌∷◌, ◌++◌, length, Some, None, refl, sym, ap, ◌∙◌, arith}
use Rattle.std.specs.Int.{cast_signed, w32, w64}
use Rattle.std.specs.List.{list_all}
use Rattle.std.proofs.lemmas.Bool.{and_parts, and_from}
use Rattle.spec_reading.specs.wasm_form.declared.types.ValType.{ValType}
use Rattle.spec_reading.specs.wasm_form.declared.types.ValType.TheVariants.{I32, I64, F32, F64, FuncRef, ExternRef}
use Rattle.spec_reading.specs.wasm_form.declared.instr.BlockType.TheVariants.{Empty}
use Rattle.spec_reading.specs.wasm_form.declared.instr.Instr.{Instr, Plain, Index, Block, Loop, If, Access, I64Const, RefNull, Prefixed, roll-Instr}
use Rattle.spec_reading.specs.wasm_form.declared.instr.Instr.TheOpen as Open
use Rattle.spec_reading.specs.wasm_form.declared.instr.Instr.TheVariants.{rolls-Plain, rolls-Index, rolls-Block, rolls-Loop, rolls-If, rolls-Access, rolls-I32Const, rolls-I64Const, rolls-RefNull, rolls-Prefixed}
use Rattle.spec_reading.specs.wasm_form.declared.instr.Expr.{Expr}
use Rattle.spec_reading.specs.wasm_form.declared.module.Code.{Code}
use Rattle.spec_reading.specs.wasm_form.declared.module.Module.{Module}
use Rattle.spec_reading.proofs.of_wasm_form.Levels.{with_inside}
use Rattle.spec_reading.specs.wasm_form.declared.runtime.Value.{Value}
use Rattle.spec_reading.specs.wasm_form.declared.runtime.Value.TheVariants.{Num, Func}
use Rattle.spec_reading.specs.spec_binary.Operands.{control_operands, access_operands, reference_operands}
use Rattle.spec_reading.specs.spec_binary.Trees.{nesting_here, nesting, nesting_all, every_here, every, every_of}
use Rattle.spec_reading.specs.spec_binary.BodyLimits.{local_count}
use Rattle.spec_reading.specs.spec_binary.WellFormed.{has_form, IsFormedCode}
use Rattle.spec_loading.specs.spec_validation.Faults.{unsupported_here, unsupported, unsupported_of, is_group_supported}
use Rattle.wasm_encode.specs.Weight.{units_here, units, units_of, code_weight}
use Rattle.wasm_encode.proofs.Units.{units_level, units_then}
use Rattle.merge_match.specs.Renumbering.{Numbers}
use Rattle.merge_start.specs.Words.{number}
use Rattle.merge_module.specs.MergedModule.{constant_instr}
use Rattle.merge_module.proofs.Faultless.{neither, both_none, SupportedBody}
use Rattle.merge_module.proofs.SupportedCode.{unsupported_list, supported_level, list_is}
use Rattle.merge_module.proofs.FormedCode.{nesting_level, every_level}

-- ---- one instruction

pub record IsStep (i : Instr) : Type 0 where
  pub formed : every has_form i ≡ true
  pub flat : nesting i ≡ 0
  pub supported : (wasm : Module) (k : ℕ) → unsupported wasm k i ≡ None
  pub one : units i ≡ 1

module _ (x : Open.Instr-F Instr Expr) (i : Instr) (rolled : roll-Instr x ≡ i) where
  formed_by : every has_form i ≡ every_here has_form (with_inside (every_of has_form) x)
  formed_by = ap (every has_form) (sym rolled) ∙ every_level has_form x

  nested_by : nesting i ≡ nesting_here (with_inside nesting_all x)
  nested_by = ap nesting (sym rolled) ∙ nesting_level x

  supported_by : (wasm : Module) (k : ℕ) → unsupported wasm k i ≡ unsupported_here wasm k (with_inside (unsupported_list wasm k) x)
  supported_by wasm k = ap (unsupported wasm k) (sym rolled) ∙ supported_level wasm k x

  units_by : units i ≡ units_here (with_inside units_of x)
  units_by = ap units (sym rolled) ∙ units_level x

  step_by : every_here has_form (with_inside (every_of has_form) x) ≡ true → nesting_here (with_inside nesting_all x) ≡ 0
      → ((wasm : Module) (k : ℕ) → unsupported_here wasm k (with_inside (unsupported_list wasm k) x) ≡ None) → units_here (with_inside units_of x) ≡ 1 → IsStep i
  step_by formed flat supported one = record { formed = formed_by ∙ formed; flat = nested_by ∙ flat; supported = λ wasm k. supported_by wasm k ∙ supported wasm k; one = units_by ∙ one }

index_step : (op n : ℕ) → has_form (Open.Index op n) ≡ true → IsStep (Index op n)
index_step op n form = step_by (Open.Index op n) (Index op n) (rolls-Index op n) form refl (λ wasm k. refl) refl

pub branch_step : (n : ℕ) → IsStep (Index 0x0C n)
unfolding control_operands
branch_step n = index_step 0x0C n refl

pub branch_if_step : (n : ℕ) → IsStep (Index 0x0D n)
unfolding control_operands
branch_if_step n = index_step 0x0D n refl

pub call_step : (n : ℕ) → IsStep (Index 0x10 n)
unfolding control_operands
call_step n = index_step 0x10 n refl

pub get_step : (n : ℕ) → IsStep (Index 0x20 n)
unfolding access_operands
get_step n = index_step 0x20 n refl

pub set_step : (n : ℕ) → IsStep (Index 0x21 n)
unfolding access_operands
set_step n = index_step 0x21 n refl

pub tee_step : (n : ℕ) → IsStep (Index 0x22 n)
unfolding access_operands
tee_step n = index_step 0x22 n refl

pub get_global_step : (n : ℕ) → IsStep (Index 0x23 n)
unfolding access_operands
get_global_step n = index_step 0x23 n refl

pub set_global_step : (n : ℕ) → IsStep (Index 0x24 n)
unfolding access_operands
set_global_step n = index_step 0x24 n refl

reference_step : (n : ℕ) → IsStep (Index 0xD2 n)
unfolding reference_operands
reference_step n = index_step 0xD2 n refl

pub load_byte_step : (offset : ℕ) → IsStep (Access 0x2D 0 offset)
unfolding access_operands
load_byte_step offset = step_by (Open.Access 0x2D 0 offset) (Access 0x2D 0 offset) (rolls-Access 0x2D 0 offset) refl refl (λ wasm k. refl) refl

pub return_step : IsStep (Plain 0x0F)
unfolding control_operands
return_step = step_by (Open.Plain 0x0F) (Plain 0x0F) (rolls-Plain 0x0F) refl refl (λ wasm k. refl) refl

pub trap_step : IsStep (roll-Instr (Open.Plain 0))
unfolding control_operands
trap_step = step_by (Open.Plain 0) (roll-Instr (Open.Plain 0)) refl refl refl (λ wasm k. refl) refl

-- an operator of integers
pub operator_step : (op : ℕ) → has_form (Open.Plain op) ≡ true → ((wasm : Module) (k : ℕ) → unsupported_here wasm k (Open.Plain op) ≡ None) → IsStep (Plain op)
operator_step op form supported = step_by (Open.Plain op) (Plain op) (rolls-Plain op) form refl supported refl

pub number_step : (k : ℕ) → IsStep (number k)
number_step k = step_by (Open.I32Const (cast_signed w32 k)) (number k) (rolls-I32Const (cast_signed w32 k)) refl refl (λ wasm j. refl) refl

pub wide_step : (k : ℕ) → IsStep (I64Const (cast_signed w64 k))
wide_step k = step_by (Open.I64Const (cast_signed w64 k)) (I64Const (cast_signed w64 k)) (rolls-I64Const (cast_signed w64 k)) refl refl (λ wasm j. refl) refl

null_step : IsStep (RefNull FuncRef)
null_step = step_by (Open.RefNull FuncRef) (RefNull FuncRef) (rolls-RefNull FuncRef) refl refl (λ wasm k. refl) refl

pub second_step : (op x y : ℕ) → has_form (Open.Prefixed op x y) ≡ true → ((wasm : Module) (k : ℕ) → unsupported_here wasm k (Open.Prefixed op x y) ≡ None) → IsStep (Prefixed op x y)
second_step op x y form supported = step_by (Open.Prefixed op x y) (Prefixed op x y) (rolls-Prefixed op x y) form refl supported refl

pub constant_step : (n : Numbers) (t : ValType) (v : Value) → IsStep (constant_instr n t v)
constant_step n I32 (Num k) = number_step k
constant_step n I64 (Num k) = wide_step k
constant_step n F32 (Num k) = number_step k
constant_step n F64 (Num k) = number_step k
constant_step n FuncRef (Num k) = number_step k
constant_step n ExternRef (Num k) = number_step k
constant_step n I32 (Func None) = null_step
constant_step n I64 (Func None) = null_step
constant_step n F32 (Func None) = null_step
constant_step n F64 (Func None) = null_step
constant_step n FuncRef (Func None) = null_step
constant_step n ExternRef (Func None) = null_step
constant_step n I32 (Func (Some r)) = reference_step (n.function r)
constant_step n I64 (Func (Some r)) = reference_step (n.function r)
constant_step n F32 (Func (Some r)) = reference_step (n.function r)
constant_step n F64 (Func (Some r)) = reference_step (n.function r)
constant_step n FuncRef (Func (Some r)) = reference_step (n.function r)
constant_step n ExternRef (Func (Some r)) = reference_step (n.function r)

-- ---- pieces

pub record IsPiece (deep size : ℕ) (is : List Instr) : Type 0 where
  pub formed : every_of has_form is ≡ true
  pub nested : nesting_all is ≤ deep
  pub supported : (wasm : Module) (k : ℕ) → unsupported_of wasm k is ≡ None
  pub light : units_of is ≤ size

pub nothing : (deep : ℕ) → IsPiece deep 0 []
nothing deep = record { formed = refl; nested = omega arith; supported = λ wasm k. refl; light = omega arith }

pub within : {deep size : ℕ} {is : List Instr} (more_deep more : ℕ) → IsPiece deep size is → deep ≤ more_deep → size ≤ more → IsPiece more_deep more is
within more_deep more p below few = (let nested = p.nested in let light = p.light in record { formed = p.formed; nested = omega arith; supported = p.supported; light = omega arith })

pub step : {deep size : ℕ} {i : Instr} {is : List Instr} → IsStep i → IsPiece deep size is → IsPiece deep (suc size) (i ∷ is)
step {deep} {size} {i} {is} one rest =
    let flat = one.flat in
    let nested = rest.nested in
    let unit = one.one in
    let light = rest.light in
    record {
      formed = and_from (every has_form i) (every_of has_form is) one.formed rest.formed;
      nested = omega arith;
      supported = λ wasm k. both_none (unsupported wasm k i) (unsupported_of wasm k is) (one.supported wasm k) (rest.supported wasm k);
      light = omega arith;
    }

nested_then : (deep : ℕ) (xs ys : List Instr) → nesting_all xs ≤ deep → nesting_all ys ≤ deep → nesting_all (xs ++ ys) ≤ deep
nested_then deep [] ys a b = b
nested_then deep (x ∷ xs) ys a b = (let rest = nested_then deep xs ys (omega arith) b in omega arith)

formed_then : (xs ys : List Instr) → every_of has_form xs ≡ true → every_of has_form ys ≡ true → every_of has_form (xs ++ ys) ≡ true
formed_then [] ys a b = b
formed_then (x ∷ xs) ys a b =
    let both = and_parts (every has_form x) (every_of has_form xs) a in
    and_from (every has_form x) (every_of has_form (xs ++ ys)) both.0 (formed_then xs ys both.1 b)

supported_then : (wasm : Module) (k : ℕ) (xs ys : List Instr) → unsupported_of wasm k xs ≡ None → unsupported_of wasm k ys ≡ None → unsupported_of wasm k (xs ++ ys) ≡ None
supported_then wasm k [] ys a b = b
supported_then wasm k (x ∷ xs) ys a b =
    let parts = neither (unsupported wasm k x) (unsupported_of wasm k xs) a in
    both_none (unsupported wasm k x) (unsupported_of wasm k (xs ++ ys)) parts.0 (supported_then wasm k xs ys parts.1 b)

pub then_piece : {deep a b : ℕ} {xs ys : List Instr} → IsPiece deep a xs → IsPiece deep b ys → IsPiece deep (a + b) (xs ++ ys)
then_piece {deep} {a} {b} {xs} {ys} p q =
    let light = p.light in
    let more = q.light in
    let sum = units_then xs ys in
    record {
      formed = formed_then xs ys p.formed q.formed;
      nested = nested_then deep xs ys p.nested q.nested;
      supported = λ wasm k. supported_then wasm k xs ys (p.supported wasm k) (q.supported wasm k);
      light = omega arith;
    }

-- code in a block, and then more
module _ {deep size more : ℕ} {is rest : List Instr} (inner : IsPiece deep size is) (behind : IsPiece (suc deep) more rest) where
  enclosed : (x : Open.Instr-F Instr Expr) (i : Instr) → roll-Instr x ≡ i → every_here has_form (with_inside (every_of has_form) x) ≡ true
      → nesting_here (with_inside nesting_all x) ≡ suc (nesting_all is) → ((wasm : Module) (k : ℕ) → unsupported_here wasm k (with_inside (unsupported_list wasm k) x) ≡ unsupported_list wasm k is)
      → units_here (with_inside units_of x) ≡ suc (units_of is) → IsPiece (suc deep) (suc (size + more)) (i ∷ rest)
  enclosed x i rolled formed nested supported light =
      let one = nested_by x i rolled ∙ nested in
      let two = units_by x i rolled ∙ light in
      let inside = inner.nested in
      let after = behind.nested in
      let few = inner.light in
      let some = behind.light in
      record {
        formed = and_from (every has_form i) (every_of has_form rest) (formed_by x i rolled ∙ formed) behind.formed;
        nested = omega arith;
        supported = λ wasm k. both_none (unsupported wasm k i) (unsupported_of wasm k rest) (supported_by x i rolled wasm k ∙ supported wasm k ∙ sym (list_is wasm k is) ∙ inner.supported wasm k) (behind.supported wasm k);
        light = omega arith;
      }

  pub in_block : IsPiece (suc deep) (suc (size + more)) (Block Empty (record { list = is }) ∷ rest)
  in_block =
      enclosed (Open.Block Empty (record { list = is })) (Block Empty (record { list = is })) (rolls-Block Empty (record { list = is })) inner.formed refl (λ wasm k. refl) refl

  pub in_loop : IsPiece (suc deep) (suc (size + more)) (Loop Empty (record { list = is }) ∷ rest)
  in_loop =
      enclosed (Open.Loop Empty (record { list = is })) (Loop Empty (record { list = is })) (rolls-Loop Empty (record { list = is })) inner.formed refl (λ wasm k. refl) refl

  pub in_if : IsPiece (suc deep) (suc (size + more)) (If Empty (record { list = is }) None ∷ rest)
  in_if =
      enclosed (Open.If Empty (record { list = is }) None) (If Empty (record { list = is }) None) (rolls-If Empty (record { list = is }) None) inner.formed refl (λ wasm k. refl) refl

-- ---- bodies

-- a body that can be written, and is supported
pub record IsBody (size : ℕ) (c : Code) : Type 0 where
  pub formed : IsFormedCode c
  pub supported : (wasm : Module) → SupportedBody wasm c
  pub light : code_weight c ≤ size

-- with the locals that it declares, in so many groups
pub body_with : (groups deep size : ℕ) (c : Code) → IsPiece deep size c.body.list → deep ≤ 1000 → length c.locals ≤ groups → groups ≤ 4 → local_count c.locals ≤ 4
    → list_all is_group_supported c.locals ≡ true → IsBody (size + (groups + 3)) c
body_with groups deep size c p low many few count fine =
    let nested = p.nested in
    let light = p.light in
    record {
      formed = record { locals = omega arith; body = p.formed; limits = record { few_locals = omega arith; flat = omega arith } };
      supported = λ wasm k. rw fine (p.supported wasm k);
      light = omega arith;
    }

-- two groups
pub body_by : (deep size : ℕ) (c : Code) → IsPiece deep size c.body.list → deep ≤ 1000 → length c.locals ≤ 2 → local_count c.locals ≤ 2 → list_all is_group_supported c.locals ≡ true → IsBody (size + 5) c
body_by deep size c p low few count fine = body_with 2 deep size c p low few (omega arith) (omega arith) fine
