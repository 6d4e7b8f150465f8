use Rattle.std.proofs.Common.{Ok}
use Rattle.host_calls.specs.Embedders.{names_of}
use Rattle.dyl_link.specs.dyl_search.Gathers.{options_of}
use Rattle.dyl_link.specs.Sets as links
use Rattle.dyl_front.specs.declared.order.Order.TheVariants.{Plan}
use Rattle.dyl_commands.proofs.Telling.{done_silent, told_serves, told_plans}
use Rattle.dyl_commands.proofs.Counting.{told_counts}
use Rattle.dyl_app.proofs.service.perform_plan.Goals as goal

pub returns-clause-serves : goal.returns-clause-serves
returns-clause-serves g c =
    told_serves (names_of c.args.host.now) (Ok (Plan c.args.set.now c.args.link.now)) c.plan_main-listed.result c.tell.result _ _ _ _ c.tell.ensures.answer c.plan_main-listed.ensures.serves

pub returns-clause-works : goal.returns-clause-works
returns-clause-works g c =
    told_plans _ (names_of c.args.host.now) (options_of c.args.set.now) (links.options_of c.args.link.now) c.plan_main-listed.result c.tell.result _ _ c.tell.ensures.answer c.plan_main-listed.ensures.works

pub returns-clause-quiet : goal.returns-clause-quiet
returns-clause-quiet g c = λ is. c.tell.ensures.quiet (done_silent c.tell.result is)

pub returns-clause-counts : goal.returns-clause-counts
returns-clause-counts g c = told_counts (Ok (Plan c.args.set.now c.args.link.now)) c.plan_main-listed.result c.tell.result _ _ c.tell.ensures.answer c.plan_main-listed.ensures.counts
