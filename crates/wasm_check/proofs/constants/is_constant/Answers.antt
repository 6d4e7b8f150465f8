use Rattle.std.proofs.Common.{◌≡◌, ◌∙◌, ◌+◌, ℕ, List, [], Option, drop, ap, sym}
use Rattle.std.proofs.Math.ListN.{drop_of_length-le}
use Rattle.wasm_form.specs.declared.instr.Instr.{Instr}
use Rattle.spec_execution.specs.spec_binary.Options.{◌>>=◌}
use Rattle.spec_execution.specs.spec_binary.Counted.{left, is_one}
use Rattle.spec_execution.specs.spec_validation.Counted.{step_of}
use Rattle.spec_execution.proofs.of_spec_validation.Constants.{constant_is_counted}
use Rattle.wasm_check.proofs.ConstantSteps.{here_then}
use Rattle.wasm_check.proofs.constants.is_constant.Goals as goal

pub returns-in-None : goal.returns-in-None
returns-in-None c =
    let step = step_of c.args.m.now c.args.t in
    let is = c.items-i-items.result.now in
    let none = ap (λ (o : Option ℕ). o >>= left step (drop (c.loop-i.i-index + 1) is)) (sym c.counted.ensures ∙ c.in-None.is) in
    sym (constant_is_counted c.args.m.now c.args.t c.args.e.now
    ∙ ap is_one (c.loop-i.invariant.left
    ∙ ap (λ (js : List Instr). left step js c.loop-i.values) (here_then is c.loop-i.i-index c.i-item.result c.loop-i-test.true c.i-item.is)
    ∙ none))

pub returns : goal.returns
returns c =
    let step = step_of c.args.m.now c.args.t in
    let is = c.items-i-items.result.now in
    let at_end : drop c.loop-i.i-index is ≡ [] = drop_of_length-le is c.loop-i-test.false in
    sym (constant_is_counted c.args.m.now c.args.t c.args.e.now ∙ ap is_one (c.loop-i.invariant.left ∙ ap (λ (js : List Instr). left step js c.loop-i.values) at_end))
