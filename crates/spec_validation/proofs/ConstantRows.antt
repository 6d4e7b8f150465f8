-- Worked constant expressions: which are of a type.
use Rattle.std.proofs.Common.{◌≡◌, List, [], ◌∷◌, true, false, None}
use Rattle.std.specs.Prelude.{Bool, pos}
use denote.Hole.Carrier.{out}
use Rattle.spec_binary.specs.wasm_form.declared.types.ValType.{ValType}
use Rattle.spec_binary.specs.wasm_form.declared.types.ValType.TheVariants.{I32, I64, FuncRef}
use Rattle.spec_binary.specs.wasm_form.declared.instr.Instr.{Instr, Plain, Index, I32Const, I64Const, RefNull, out-Instr}
use Rattle.spec_binary.specs.wasm_form.declared.module.ImportDesc.TheVariants as imported
use Rattle.spec_binary.specs.wasm_form.declared.module.Module.{Module}
use Rattle.spec_validation.specs.Faults.{is_constant}
use Rattle.spec_validation.proofs.Constants.{constant_is_counted}

-- it imports an immutable i32 global, and one that may be set
abbrev wasm : Module
wasm = record {
  types = [];
  imports = record { «module» = []; field = []; desc = imported.Global (record { value = I32; mutable = false }) }
      ∷ record { «module» = []; field = []; desc = imported.Global (record { value = I32; mutable = true }) } ∷ [];
  funcs = [];
  tables = [];
  memories = [];
  globals = [];
  exports = [];
  start = None;
  elems = [];
  data_count = None;
  codes = [];
  datas = [];
  customs = [];
}

abbrev is_of : ValType → List Instr → Bool
is_of t is = is_constant wasm t (record { list = is })

base_and_four : is_of I32 (Index 0x23 0 ∷ I32Const (pos 4) ∷ Plain 0x6A ∷ []) ≡ true
unfolding out-Instr out
base_and_four = constant_is_counted wasm I32 (record { list = Index 0x23 0 ∷ I32Const (pos 4) ∷ Plain 0x6A ∷ [] })

long_product : is_of I64 (I64Const (pos 4) ∷ I64Const (pos 5) ∷ I64Const (pos 6) ∷ Plain 0x7E ∷ Plain 0x7D ∷ []) ≡ true
unfolding out-Instr out
long_product = constant_is_counted wasm I64 (record { list = I64Const (pos 4) ∷ I64Const (pos 5) ∷ I64Const (pos 6) ∷ Plain 0x7E ∷ Plain 0x7D ∷ [] })

-- two types
mixed : is_of I32 (I32Const (pos 1) ∷ I64Const (pos 2) ∷ Plain 0x6A ∷ []) ≡ false
unfolding out-Instr out
mixed = constant_is_counted wasm I32 (record { list = I32Const (pos 1) ∷ I64Const (pos 2) ∷ Plain 0x6A ∷ [] })

-- two values are left
two_left : is_of I32 (I32Const (pos 1) ∷ I32Const (pos 2) ∷ []) ≡ false
unfolding out-Instr out
two_left = constant_is_counted wasm I32 (record { list = I32Const (pos 1) ∷ I32Const (pos 2) ∷ [] })

-- well typed, but a division
division : is_of I32 (I32Const (pos 4) ∷ I32Const (pos 2) ∷ Plain 0x6E ∷ []) ≡ false
unfolding out-Instr out
division = constant_is_counted wasm I32 (record { list = I32Const (pos 4) ∷ I32Const (pos 2) ∷ Plain 0x6E ∷ [] })

nothing_left : is_of I32 [] ≡ false
unfolding out-Instr out
nothing_left = constant_is_counted wasm I32 (record { list = [] })

too_few : is_of I32 (I32Const (pos 1) ∷ Plain 0x6A ∷ []) ≡ false
unfolding out-Instr out
too_few = constant_is_counted wasm I32 (record { list = I32Const (pos 1) ∷ Plain 0x6A ∷ [] })

may_be_set : is_of I32 (Index 0x23 1 ∷ []) ≡ false
unfolding out-Instr out
may_be_set = constant_is_counted wasm I32 (record { list = Index 0x23 1 ∷ [] })

null_alone : is_of FuncRef (RefNull FuncRef ∷ []) ≡ true
unfolding out-Instr out
null_alone = constant_is_counted wasm FuncRef (record { list = RefNull FuncRef ∷ [] })
