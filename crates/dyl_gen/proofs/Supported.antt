-- The code of the set is supported.
use Rattle.std.proofs.Common.{◌≡◌, ℕ, ℤ, Some, None, sym, ap, ◌∙◌}
use Rattle.wasm_form.specs.declared.instr.BlockType.{BlockType}
use Rattle.wasm_form.specs.declared.instr.Instr.{Instr, Plain, Index, If, CallIndirect, Access, I32Const, roll-Instr}
use Rattle.wasm_form.specs.declared.instr.Instr.TheOpen as Open
use Rattle.wasm_form.specs.declared.instr.Instr.TheVariants.{rolls-Plain, rolls-Index, rolls-If, rolls-CallIndirect, rolls-Access, rolls-I32Const}
use Rattle.wasm_form.specs.declared.instr.Expr.{Expr}
use Rattle.wasm_form.specs.declared.module.Module.{Module}
use Rattle.wasm_form.proofs.Levels.{with_inside}
use Rattle.spec_linking.specs.spec_validation.Faults.{unsupported_here, unsupported, unsupported_of}
use Rattle.spec_linking.proofs.of_spec_validation.Levels.{unsupported_rolled}
use Rattle.dyl_gen.specs.Generated.{function_code, relocation_code, constructor_code, start_code}

module _ (m : Module) (b : ℕ) where
  of_level : (x : Open.Instr-F Instr Expr) (i : Instr) → roll-Instr x ≡ i → unsupported m b i ≡ unsupported_here m b (with_inside (unsupported_of m b) x)
  of_level x i e = ap (unsupported m b) (sym e) ∙ unsupported_rolled m b x

  plain : (op : ℕ) → unsupported m b (Plain op) ≡ unsupported_here m b (Open.Plain op)
  plain op = of_level (Open.Plain op) (Plain op) (rolls-Plain op)

  index : (op k : ℕ) → unsupported m b (Index op k) ≡ None
  index op k = of_level (Open.Index op k) (Index op k) (rolls-Index op k)

  access : (op align offset : ℕ) → unsupported m b (Access op align offset) ≡ unsupported_here m b (Open.Access op align offset)
  access op align offset = of_level (Open.Access op align offset) (Access op align offset) (rolls-Access op align offset)

  constant : (c : ℤ) → unsupported m b (I32Const c) ≡ None
  constant c = of_level (Open.I32Const c) (I32Const c) (rolls-I32Const c)

  indirect : (ty table : ℕ) → unsupported m b (CallIndirect ty table) ≡ unsupported_here m b (Open.CallIndirect ty table)
  indirect ty table = of_level (Open.CallIndirect ty table) (CallIndirect ty table) (rolls-CallIndirect ty table)

  choice : (t : BlockType) (e f : Expr) → unsupported m b (If t e (Some f)) ≡ unsupported_here m b (Open.If t (unsupported_of m b e.list) (Some (unsupported_of m b f.list)))
  choice t e f = of_level (Open.If t e (Some f)) (If t e (Some f)) (rolls-If t e (Some f))

  pub function_supported : unsupported_here m b (Open.CallIndirect 1 0) ≡ None → unsupported_of m b function_code ≡ None
  function_supported called = simp (plain, index, access, constant, indirect, choice, called)

  pub relocation_supported : unsupported_of m b relocation_code ≡ None
  relocation_supported = simp (index, access)

  pub constructor_supported : unsupported_of m b constructor_code ≡ None
  constructor_supported = simp (plain, index, access, constant)

  pub start_supported : (n : ℕ) → unsupported_of m b (start_code n) ≡ None
  start_supported n = simp (plain, index, access, constant)
