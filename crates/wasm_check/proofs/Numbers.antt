-- The number that a constant expression is taken for: no function is one.
use Rattle.std.proofs.Common.{◌≡◌, ℕ, Option, Some, None, refl, ap, ◌∙◌}
use Rattle.wasm_form.specs.declared.instr.Expr.{Expr}
use Rattle.wasm_form.specs.declared.runtime.Ref.{Ref}
use Rattle.wasm_form.specs.declared.runtime.Value.{Value}
use Rattle.spec_execution.specs.spec_binary.Options.{◌>>=◌}
use Rattle.spec_execution.specs.spec_runtime.Constants.{number_in, constant_of, constant_number}
use Rattle.wasm_check.specs.declared.value.Constant.{Constant}
use Rattle.wasm_check.specs.declared.value.Constant.TheVariants.{Num, Func}
use Rattle.wasm_check.specs.Constants.{value_of, StandsFor}

abbrev pub number_of : Constant → Option ℕ
number_of (Num n) = Some n
number_of (Func f) = None

-- no function has a number that is known
abbrev pub no_functions : ℕ → Option Ref
no_functions f = None

taken : (c : Option Constant) → ((c >>= value_of no_functions) >>= number_in) ≡ (c >>= number_of)
taken None = refl
taken (Some (Num n)) = refl
taken (Some (Func None)) = refl
taken (Some (Func (Some f))) = refl

pub number_given : (e : Expr) (globals : ℕ → Option Value) (c : Option Constant) → StandsFor c (λ functions. constant_of functions globals e)
    → constant_number (λ f. None) globals e ≡ (c >>= number_of)
number_given e globals c stands = ap (λ (o : Option Value). o >>= number_in) (stands no_functions) ∙ taken c
