use Rattle.std.proofs.Common.{not, arith}
use Rattle.spec_loading.specs.spec_linking.Orders.{is_among}
use Rattle.merge_dl.specs.Listed.{starts_in, finders_in}
use Rattle.merge_dl.proofs.Making.{prefers_next}
use Rattle.merge_dl.proofs.promoted.put_prefers.Goals as goal

pub loop-k-preserved : goal.loop-k-preserved
loop-k-preserved c =
    prefers_next (starts_in c.args.n.now) (finders_in c.args.n.now) (λ k. not (is_among k c.args.startup.now)) c.loop-k.k c.args.count
    (omega (arith, c.loop-k-test.true)) _ _ _ c.in_ok-put_prefer.ensures c.loop-k.invariant
