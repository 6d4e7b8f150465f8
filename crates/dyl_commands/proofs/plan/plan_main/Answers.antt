use Rattle.host_calls.specs.Embedders.{names_of}
use Rattle.dyl_link.specs.dyl_search.Gathers.{options_of}
use Rattle.dyl_link.specs.Sets as links
use Rattle.dyl_commands.proofs.Listing.{plan_serves, plan_works}
use Rattle.dyl_commands.proofs.Refusing.{plan_refused, plan_idle}
use Rattle.dyl_commands.proofs.Counting.{got_counts, listed_no_fault, refused_counts}
use Rattle.dyl_commands.proofs.plan.plan_main.Goals as goal

pub returns-in-Ok-clause-serves : goal.returns-in-Ok-clause-serves
returns-in-Ok-clause-serves g c = plan_serves (names_of c.args.host.now) c.args.set.now c.args.link.now c.in-Ok.linked _ _ c.in-Ok.ensures _ _ c.put_listing-outcome.result c.put_listing-outcome.ensures

pub returns-in-Ok-clause-works : goal.returns-in-Ok-clause-works
returns-in-Ok-clause-works g c = plan_works (names_of c.args.host.now) c.args.set.now c.args.link.now c.in-Ok.linked _ _ c.in-Ok.ensures _ _ c.put_listing-outcome.result c.put_listing-outcome.ensures

pub returns-in-Err-clause-serves : goal.returns-in-Err-clause-serves
returns-in-Err-clause-serves g c = plan_refused (names_of c.args.host.now) c.args.set.now c.args.link.now _ _ _ _ c.in-Err.ensures.files c.in-Err.outcome c.in-Err.ensures.fault

pub returns-in-Err-clause-works : goal.returns-in-Err-clause-works
returns-in-Err-clause-works g c = plan_idle (names_of c.args.host.now) c.args.set.now c.args.link.now _ _ 0 0 c.in-Err.ensures.files _ c.in-Err.outcome _ c.in-Err.ensures.fault

pub returns-in-Ok-clause-counts : goal.returns-in-Ok-clause-counts
returns-in-Ok-clause-counts g c =
    got_counts (names_of c.args.host.now) (options_of c.args.set.now) (links.options_of c.args.link.now) c.in-Ok.linked _ _ c.in-Ok.ensures c.put_listing-outcome.result
    (listed_no_fault c.in-Ok.linked c.put_listing-outcome.result _ _ c.put_listing-outcome.ensures)

pub returns-in-Err-clause-counts : goal.returns-in-Err-clause-counts
returns-in-Err-clause-counts g c =
    refused_counts (names_of c.args.host.now) (options_of c.args.set.now) (links.options_of c.args.link.now) _ _ c.in-Err.ensures.writes c.in-Err.ensures.absents c.in-Err.outcome
    c.in-Err.ensures.fault c.in-Err.ensures.reads c.in-Err.ensures.tried
