use Rattle.std.proofs.Common.{arith}
use Rattle.merge_whole.proofs.CountLists.{plain_step}
use Rattle.merge_whole.proofs.built.starts.range.Goals as goal

pub loop-n-preserved : goal.loop-n-preserved
loop-n-preserved c =
    plain_step c.loop-n.n c.args.end c.loop-n.list.items c.push.new.self.items _ (omega (arith, c.loop-n-test.true)) c.in_ok-push.ensures.items c.loop-n.invariant
