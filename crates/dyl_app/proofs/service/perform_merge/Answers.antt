use Rattle.std.proofs.Common.{Ok}
use Rattle.host_calls.specs.Embedders.{names_of}
use Rattle.dyl_front.specs.declared.order.Order.TheVariants.{Merge}
use Rattle.dyl_commands.proofs.Telling.{done_silent, told_serves}
use Rattle.dyl_commands.proofs.Counting.{told_counts}
use Rattle.dyl_app.proofs.service.perform_merge.Goals as goal

pub returns-clause-serves : goal.returns-clause-serves
returns-clause-serves g c = λ before now.
    told_serves (names_of c.args.host.now) _ c.merge_main-merged.result c.tell.result _ _ before now c.tell.ensures.answer (c.merge_main-merged.ensures.serves before now)

pub returns-clause-quiet : goal.returns-clause-quiet
returns-clause-quiet g c = λ is. c.tell.ensures.quiet (done_silent c.tell.result is)

pub returns-clause-counts : goal.returns-clause-counts
returns-clause-counts g c = told_counts (Ok (Merge c.args.set.now c.args.link.now c.args.out.now)) c.merge_main-merged.result c.tell.result _ _ c.tell.ensures.answer c.merge_main-merged.ensures.counts
