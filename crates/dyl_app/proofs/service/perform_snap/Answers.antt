use Rattle.std.proofs.Common.{Ok}
use Rattle.host_calls.specs.Embedders.{names_of}
use Rattle.dyl_front.specs.declared.order.Order.TheVariants.{Snap}
use Rattle.dyl_commands.proofs.Telling.{done_silent, told_serves}
use Rattle.dyl_commands.proofs.Counting.{told_counts}
use Rattle.dyl_app.proofs.service.perform_snap.Goals as goal

pub returns-clause-serves : goal.returns-clause-serves
returns-clause-serves g c = λ before now.
    told_serves (names_of c.args.host.now) _ c.snap_main-snapped.result c.tell.result _ _ before now c.tell.ensures.answer (c.snap_main-snapped.ensures.serves before now)

pub returns-clause-quiet : goal.returns-clause-quiet
returns-clause-quiet g c = λ is. c.tell.ensures.quiet (done_silent c.tell.result is)

pub returns-clause-counts : goal.returns-clause-counts
returns-clause-counts g c = told_counts (Ok (Snap c.args.set.now c.args.link.now c.args.steps c.args.out.now)) c.snap_main-snapped.result c.tell.result _ _ c.tell.ensures.answer c.snap_main-snapped.ensures.counts
