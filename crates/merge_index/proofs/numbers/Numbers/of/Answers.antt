use Rattle.std.proofs.Common.{◌∙◌, ap}
use Rattle.merge_index.specs.Kept.{KeptNumbers, numbers_in}
use Rattle.merge_index.proofs.Whole.{numbers_are, first_phase_is, loader_is}
use Rattle.merge_index.proofs.numbers.Numbers.of.Goals as goal

pub returns-clause-numbers : goal.returns-clause-numbers
returns-clause-numbers c =
    let n = c.in_ok-numbers.numbers in
    ap numbers_in c.in_ok-numbers.ensures.kept
    ∙ numbers_are c.args.linked.now c.functions.result.now c.functions.ensures n.addresses c.in_ok-numbers.ensures.addresses

pub returns-clause-phase : goal.returns-clause-phase
returns-clause-phase c =
    let n = c.in_ok-numbers.numbers in
    ap (λ (k : KeptNumbers). k.first_phase) c.in_ok-numbers.ensures.kept
    ∙ first_phase_is c.args.linked.now c.functions.result.now c.functions.ensures n.addresses

pub returns-clause-loader : goal.returns-clause-loader
returns-clause-loader c =
    let n = c.in_ok-numbers.numbers in
    ap (λ (k : KeptNumbers). k.loader) c.in_ok-numbers.ensures.kept
    ∙ loader_is c.args.linked.now c.functions.result.now c.functions.ensures n.addresses
