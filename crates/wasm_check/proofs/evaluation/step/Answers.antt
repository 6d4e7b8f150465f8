use Rattle.std.proofs.Common.{◌∙◌, ap, Option}
use Rattle.wasm_form.specs.declared.instr.Instr.{out-Instr}
use Rattle.wasm_check.specs.Constants.{value_of, values_of, known_globals}
use Rattle.wasm_check.specs.declared.value.Constant.{Constant}
use Rattle.spec_execution.specs.spec_binary.Options.{◌>>=◌}
use Rattle.wasm_check.proofs.ConstantSteps.{nothing_after, not_plain}
use Rattle.std.specs.Prelude.{reverse}
use Rattle.wasm_check.proofs.evaluation.step.Goals as goal

pub returns-in-None-clause-value : goal.returns-in-None-clause-value
returns-in-None-clause-value c = λ functions.
    nothing_after functions (known_globals c.args.globals.now) (out-Instr c.args.i.now) (not_plain c.args.i.now c.in_default.not-Plain)
    (c.instruction_constant.ensures.value functions ∙ ap (λ (k : Option Constant). k >>= value_of functions) c.in-None.is) (values_of functions (reverse c.args.stack.now.items))
