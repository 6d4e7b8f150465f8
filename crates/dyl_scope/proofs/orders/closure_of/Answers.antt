use Rattle.std.proofs.Common.{arith, ◌∙◌, ◌<◌, ◌+◌, ◌-◌, ap, sym, length}
use Rattle.dyl_scope.specs.Orders.{needed_in, reached}
use Rattle.dyl_scope.proofs.Reached.{turn}
use Rattle.dyl_scope.proofs.orders.closure_of.Goals as goal

pub loop-k-preserved : goal.loop-k-preserved
loop-k-preserved c =
    let members = c.args.members.now in
    let lt : c.loop-k.k < length members = omega arith in
    ap (reached (needed_in members) (length members - (c.loop-k.k + 1)) (c.loop-k.k + 1)) c.in_ok-add_needed.ensures
    ∙ sym (turn (needed_in members) (length members) c.loop-k.k c.loop-k.known lt) ∙ c.loop-k.invariant
