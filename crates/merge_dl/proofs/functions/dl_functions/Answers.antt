use Rattle.std.proofs.Common.{◌++◌, List, ap, ◌∙◌}
use Rattle.wasm_form.specs.declared.module.Part.{Part}
use Rattle.merge_dl.specs.Listed.{call_parts}
use Rattle.merge_dl.proofs.functions.dl_functions.Goals as goal

pub returns-in-Ok : goal.returns-in-Ok
returns-in-Ok c = λ x d numbers.
    c.of.ensures ∙ c.in-Ok.ensures x d numbers ∙ ap (λ (l : List Part). l ++ call_parts c.args.linked.now x d) c.new-parts.ensures.items
