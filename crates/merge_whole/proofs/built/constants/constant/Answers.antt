use Rattle.std.proofs.Common.{◌≡◌, ℕ, Option, subst}
use Rattle.std.specs.Prelude.{IfOk}
use Rattle.std.proofs.Math.Path.{fun_ext}
use Rattle.wasm_form.specs.declared.runtime.Ref.{Ref}
use Rattle.spec_loading.specs.spec_runtime.Constants.{constant_of}
use Rattle.dyl_addresses.specs.Offsets.{based}
use Rattle.merge_whole.proofs.built.constants.constant.Goals as goal

pub returns : goal.returns
returns c =
    subst (λ (functions : ℕ → Option Ref). IfOk c.value.result (λ v. v ≡ constant_of functions (based c.args.bases.now) c.args.e.now))
    (fun_ext c.functions_of.ensures) c.value.ensures
