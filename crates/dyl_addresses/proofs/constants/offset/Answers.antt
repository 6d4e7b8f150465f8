use Rattle.std.proofs.Common.{◌≡◌, ℕ, List, Option, Some, sym, ap, ◌∙◌}
use Rattle.wasm_form.specs.declared.instr.Expr.{Expr}
use Rattle.spec_loading.specs.spec_binary.Options.{◌>>=◌}
use Rattle.spec_loading.specs.spec_runtime.Constants.{constant_of}
use Rattle.wasm_check.specs.declared.value.Constant.{Constant}
use Rattle.wasm_check.specs.Constants.{StandsFor}
use Rattle.wasm_check.proofs.Numbers.{number_of, number_given}
use Rattle.dyl_addresses.specs.Offsets.{based, number_with}
use Rattle.dyl_addresses.proofs.constants.offset.Goals as goal

number : (e : Expr) (bases : List (Option ℕ)) (k : Option Constant) → StandsFor k (λ functions. constant_of functions (based bases) e) → (o : Option Constant) → k ≡ o
    → (o >>= number_of) ≡ number_with bases e
number e bases k stands o is = ap (λ (x : Option Constant). x >>= number_of) (sym is) ∙ sym (number_given e (based bases) k stands)

pub returns-in-Some-Num : goal.returns-in-Some-Num
returns-in-Some-Num c =
    number c.args.e.now c.args.bases.now c.in_ok-n.field-0 c.in_ok-n.ensures.value _ (c.in-Some-Num.is ∙ ap Some c.in-Some-Num.field-0-is)

pub returns-in-Some-Func : goal.returns-in-Some-Func
returns-in-Some-Func c =
    number c.args.e.now c.args.bases.now c.in_ok-n.field-0 c.in_ok-n.ensures.value _ (c.in-Some-Func.is ∙ ap Some c.in-Some-Func.field-0-is)

pub returns-in-None : goal.returns-in-None
returns-in-None c = number c.args.e.now c.args.bases.now c.in_ok-n.field-0 c.in_ok-n.ensures.value _ c.in-None.is
