use Rattle.std.proofs.Common.{◌∙◌, ap, arith}
use Rattle.spec_loading.specs.LoaderAnswers.{error_answer}
use Rattle.dyl_world.proofs.Known.{text_fits, text_there}
use Rattle.dyl_world.proofs.answers.error_answer.Goals as goal

pub text_address-requires : goal.text_address-requires
text_address-requires c = text_fits c.args.linked.now c.plan.result.now _ c.text_offset.result c.plan.ensures c.text_offset.ensures

pub returns-in_default-clause-value : goal.returns-in_default-clause-value
returns-in_default-clause-value c =
    let L = c.args.linked.now in
    c.text_address.ensures
    ∙ text_there L c.plan.result.now c.take.result c.text_offset.result (omega arith) c.plan.ensures c.text_offset.ensures
    ∙ ap (error_answer L) c.take.ensures.value
