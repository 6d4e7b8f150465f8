use Rattle.std.proofs.Common.{ℕ, Option, subst}
use Rattle.std.specs.Prelude.{IfOk}
use Rattle.std.proofs.Math.Path.{fun_ext}
use Rattle.wasm_form.specs.declared.types.ValType.TheVariants.{I32}
use Rattle.wasm_form.specs.declared.runtime.Value.{Value}
use Rattle.spec_loading.specs.spec_runtime.Constants.{constant_of}
use Rattle.wasm_check.specs.Constants.{StandsFor}
use Rattle.dyl_addresses.proofs.Offsets.{known_base}
use Rattle.dyl_addresses.proofs.constants.constant.Goals as goal

pub returns-clause-value : goal.returns-clause-value
returns-clause-value c =
    subst (λ (G : ℕ → Option Value). IfOk c.evaluate.result (λ k. StandsFor k (λ functions. constant_of functions G c.args.e.now)))
    (fun_ext (known_base c.args.bases.now)) c.evaluate.ensures.value

pub returns-clause-word : goal.returns-clause-word
returns-clause-word c = λ m typed. c.evaluate.ensures.typed m I32 typed tt
