use Rattle.std.proofs.Common.{◌≡◌, [], ◌∙◌}
use Rattle.merge_dl.proofs.Making.{close_part}
use Rattle.merge_dl.proofs.dlclose.close_function.Goals as goal

pub returns : goal.returns
returns c = λ x d numbers.
    let none : c.new.result.items ≡ [] = c.new.ensures.items in
    c.part.ensures ∙ close_part c.args.linked.now c.args.n.now x d numbers _ _ _ c.in_ok-ty.ensures none c.in_ok-code.ensures
