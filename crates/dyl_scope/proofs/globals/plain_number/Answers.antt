use Rattle.std.proofs.Common.{◌≡◌, ℕ, Option, Some, None, refl, sym, ap, ◌∙◌}
use Rattle.std.proofs.Math.Path.{fun_ext}
use Rattle.wasm_form.specs.declared.instr.Expr.{Expr}
use Rattle.wasm_form.specs.declared.runtime.Value.{Value}
use Rattle.spec_linking.specs.spec_binary.Options.{◌>>=◌}
use Rattle.spec_linking.specs.spec_runtime.Constants.{constant_of, constant_number}
use Rattle.wasm_check.specs.declared.value.Constant.{Constant}
use Rattle.wasm_check.specs.Constants.{StandsFor}
use Rattle.wasm_check.proofs.Numbers.{number_of, no_functions, number_given}
use Rattle.spec_linking.specs.Definitions.{plain_number}
use Rattle.dyl_scope.proofs.globals.plain_number.Goals as goal

-- where no global is known
number : (e : Expr) (globals : ℕ → Option Value) → ((g : ℕ) → globals g ≡ None)
    → (k : Option Constant) → StandsFor k (λ functions. constant_of functions globals e) → (o : Option Constant) → k ≡ o → (o >>= number_of) ≡ plain_number e
number e globals none k stands o is =
    ap (λ (x : Option Constant). x >>= number_of) (sym is)
    ∙ sym (number_given e globals k stands)
    ∙ ap (λ (G : ℕ → Option Value). constant_number no_functions G e) (fun_ext none)

pub returns-in-Some-Num : goal.returns-in-Some-Num
returns-in-Some-Num c = number c.args.e.now _ (λ g. refl) c.in_ok-n.field-0 c.in_ok-n.ensures.value _ (c.in-Some-Num.is ∙ ap Some c.in-Some-Num.field-0-is)

pub returns-in-Some-Func : goal.returns-in-Some-Func
returns-in-Some-Func c = number c.args.e.now _ (λ g. refl) c.in_ok-n.field-0 c.in_ok-n.ensures.value _ (c.in-Some-Func.is ∙ ap Some c.in-Some-Func.field-0-is)

pub returns-in-None : goal.returns-in-None
returns-in-None c = number c.args.e.now _ (λ g. refl) c.in_ok-n.field-0 c.in_ok-n.ensures.value _ c.in-None.is
