use Rattle.std.proofs.Common.{arith, ◌∙◌, ◌<◌, ap, length, get_or}
use Rattle.spec_linking.specs.Orders.{with_number}
use Rattle.dyl_search.proofs.Closures.{with_more_numbers}
use Rattle.dyl_search.proofs.startup.add_new.Goals as goal

pub loop-n-preserved : goal.loop-n-preserved
loop-n-preserved c =
    let lt : c.loop-n.n-index < length c.args.numbers.now = omega arith in
    c.in_ok-add_number.ensures ∙ ap (λ ks. with_number ks (get_or c.args.numbers.now c.loop-n.n-index 0)) c.loop-n.invariant ∙ with_more_numbers c.args.known.now.items c.args.numbers.now c.loop-n.n-index lt
