use Rattle.std.proofs.Common.{Some, sym, subst, ◌∙◌}
use Rattle.merge_index.specs.Numbering.{starts_of}
use Rattle.merge_whole.specs.Given.{HasLoader}
use Rattle.merge_whole.proofs.LoaderNumbers.{has_loader}
use Rattle.merge_whole.proofs.built.loader.loader_numbers.Goals as goal

pub returns-clause-loader : goal.returns-clause-loader
returns-clause-loader c =
    let L = c.args.linked.now in
    subst (λ d. HasLoader L (starts_of L) (Some d)) (sym c.in_ok-numbers.ensures.is)
    (has_loader L c.args.guard c.requires.guards (Some c.in-Some.loader) (sym c.in-Some.is ∙ c.loader.ensures ∙ c.requires.loader))
