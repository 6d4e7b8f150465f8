-- Worked constant expressions: what they come to, where the one imported global is 66664.
use Rattle.std.proofs.Common.{◌≡◌, pos, negsuc, List, [], ◌∷◌, Option, Some, None, refl}
use denote.Hole.Carrier.{out}
use Rattle.spec_binary.specs.wasm_form.declared.types.ValType.TheVariants.{FuncRef}
use Rattle.spec_binary.specs.wasm_form.declared.instr.Instr.{Instr, Plain, Index, I32Const, I64Const, RefNull, out-Instr}
use Rattle.spec_binary.specs.wasm_form.declared.runtime.Value.{Value}
use Rattle.spec_binary.specs.wasm_form.declared.runtime.Value.TheVariants.{Num}
use Rattle.spec_runtime.specs.Constants.{constant_in, numbered_globals}

abbrev value_in : List Instr → Option Value
value_in = constant_in (λ f. None) (numbered_globals (66664 ∷ []))

base_and_four : value_in (Index 0x23 0 ∷ I32Const (pos 4) ∷ Plain 0x6A ∷ []) ≡ Some (Num 66668)
unfolding out-Instr out
base_and_four = refl

-- the first operand is the one that was put there first
subtracted : value_in (I64Const (pos 7) ∷ I64Const (pos 2) ∷ Plain 0x7D ∷ []) ≡ Some (Num 5)
unfolding out-Instr out
subtracted = refl

-- modulo 2^32
short_sum : value_in (I32Const (negsuc 0) ∷ I32Const (pos 2) ∷ Plain 0x6A ∷ []) ≡ Some (Num 1)
unfolding out-Instr out
short_sum = refl

short_difference : value_in (I32Const (pos 7) ∷ I32Const (pos 9) ∷ Plain 0x6B ∷ []) ≡ Some (Num 4294967294)
unfolding out-Instr out
short_difference = refl

short_product : value_in (I32Const (pos 65536) ∷ I32Const (pos 65537) ∷ Plain 0x6C ∷ []) ≡ Some (Num 65536)
unfolding out-Instr out
short_product = refl

-- modulo 2^64
long_sum : value_in (I64Const (negsuc 0) ∷ I64Const (pos 2) ∷ Plain 0x7C ∷ []) ≡ Some (Num 1)
unfolding out-Instr out
long_sum = refl

long_product : value_in (I64Const (pos 4294967296) ∷ I64Const (pos 4294967297) ∷ Plain 0x7E ∷ []) ≡ Some (Num 4294967296)
unfolding out-Instr out
long_product = refl

-- no value: two values are left, none is, an operator finds too few, or none that is a number; or it is a division
two_left : value_in (I32Const (pos 1) ∷ I32Const (pos 2) ∷ []) ≡ None
unfolding out-Instr out
two_left = refl

nothing_left : value_in [] ≡ None
nothing_left = refl

too_few : value_in (I32Const (pos 1) ∷ Plain 0x6A ∷ []) ≡ None
unfolding out-Instr out
too_few = refl

no_number : value_in (RefNull FuncRef ∷ I32Const (pos 1) ∷ Plain 0x6A ∷ []) ≡ None
unfolding out-Instr out
no_number = refl

division : value_in (I32Const (pos 4) ∷ I32Const (pos 2) ∷ Plain 0x6E ∷ []) ≡ None
unfolding out-Instr out
division = refl
