use Rattle.std.proofs.Common.{Option, sym, ap, ◌∙◌}
use Rattle.std.specs.Prelude.{slice_get}
use Rattle.spec_loading.specs.spec_binary.Options.{◌>>=◌}
use Rattle.wasm_check.specs.declared.value.Constant.{Constant}
use Rattle.wasm_check.specs.Constants.{value_of}
use Rattle.dyl_addresses.proofs.constants.value.Goals as goal

pub returns-in-Some : goal.returns-in-Some
returns-in-Some c =
    let F = slice_get c.args.functions.now in
    c.constant_value.ensures ∙ sym (c.in_ok-c.ensures.value F ∙ ap (λ (o : Option Constant). o >>= value_of F) c.in-Some.is)

pub returns-in-None : goal.returns-in-None
returns-in-None c =
    let F = slice_get c.args.functions.now in
    sym (c.in_ok-c.ensures.value F ∙ ap (λ (o : Option Constant). o >>= value_of F) c.in-None.is)
