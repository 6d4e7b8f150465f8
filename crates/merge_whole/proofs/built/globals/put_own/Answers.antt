use Rattle.std.proofs.Common.{◌<◌, length, arith}
use Rattle.merge_whole.proofs.GlobalFits.{global_at}
use Rattle.merge_whole.proofs.built.globals.put_own.Goals as goal

pub own_global-requires : goal.own_global-requires
own_global-requires c =
    let lt : c.loop-g.g-index < length c.args.globals.now = omega (arith, c.loop-g-test.true) in
    global_at c.args.linked.now c.args.bases.now c.args.m c.args.globals.now c.requires c.loop-g.g-index c.g-item.result lt c.g-item.is
