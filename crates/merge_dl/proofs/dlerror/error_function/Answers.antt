use Rattle.std.proofs.Common.{◌∙◌}
use Rattle.merge_dl.proofs.Making.{error_part}
use Rattle.merge_dl.proofs.dlerror.error_function.Goals as goal

pub returns : goal.returns
returns c = λ x d numbers.
    c.part.ensures ∙ error_part c.args.linked.now c.args.n.now x d numbers _ _ _ c.in_ok-ty.ensures c.in_ok-locals.ensures c.in_ok-code.ensures
