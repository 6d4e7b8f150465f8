use Rattle.std.proofs.Common.{arith, ◌∙◌, ◌<◌, ◌+◌, ◌-◌, ap, sym, length, map}
use Rattle.spec_linking.specs.Orders.{breadth_from}
use Rattle.dyl_search.specs.Gathers.{member_of}
use Rattle.dyl_search.proofs.Closures.{turn}
use Rattle.dyl_search.proofs.startup.closure_of.Goals as goal

pub loop-k-preserved : goal.loop-k-preserved
loop-k-preserved c =
    let lt : c.loop-k.k < length c.args.members.now = omega arith in
    ap (breadth_from (map member_of c.args.members.now) (length c.args.members.now - (c.loop-k.k + 1)) (c.loop-k.k + 1)) c.in_ok-add_needed.ensures
    ∙ sym (turn (map member_of c.args.members.now) (length c.args.members.now) c.loop-k.k c.loop-k.known.items lt) ∙ c.loop-k.invariant
