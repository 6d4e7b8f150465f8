use Rattle.host_calls.specs.Embedders.{names_of}
use Rattle.dyl_link.specs.dyl_search.Gathers.{options_of}
use Rattle.dyl_link.specs.Sets as links
use Rattle.dyl_commands.proofs.Merging.{merge_serves}
use Rattle.dyl_commands.proofs.Refusing.{merge_refused}
use Rattle.dyl_commands.proofs.Counting.{got_counts, then_stored, written_no_fault, unmerged_counts}
use Rattle.dyl_commands.proofs.merge.merge_main.Goals as goal

pub returns-in-Ok-clause-serves : goal.returns-in-Ok-clause-serves
returns-in-Ok-clause-serves g c = λ before now.
    merge_serves (names_of c.args.host.now) c.args.set.now c.args.link.now c.args.out.now c.in-Ok.linked _ _ _ c.in-Ok.ensures c.write_merged-outcome.result c.write_merged-outcome.ensures.written before now

pub returns-in-Err-clause-serves : goal.returns-in-Err-clause-serves
returns-in-Err-clause-serves g c = λ before now.
    merge_refused (names_of c.args.host.now) c.args.set.now c.args.link.now _ _ before now c.in-Err.ensures.files c.args.out.now c.in-Err.outcome c.in-Err.ensures.fault

pub returns-in-Ok-clause-counts : goal.returns-in-Ok-clause-counts
returns-in-Ok-clause-counts g c =
    let answer = c.write_merged-outcome.result in
    then_stored (options_of c.args.set.now) answer _ _ _
    (got_counts (names_of c.args.host.now) (options_of c.args.set.now) (links.options_of c.args.link.now) c.in-Ok.linked _ _ c.in-Ok.ensures answer
    (written_no_fault c.in-Ok.linked c.args.out.now answer _ _ c.write_merged-outcome.ensures.written))
    c.write_merged-outcome.ensures.counts

pub returns-in-Err-clause-counts : goal.returns-in-Err-clause-counts
returns-in-Err-clause-counts g c =
    unmerged_counts (names_of c.args.host.now) (options_of c.args.set.now) (links.options_of c.args.link.now) _ _ c.in-Err.ensures.writes c.in-Err.ensures.absents c.in-Err.outcome
    c.in-Err.ensures.fault c.in-Err.ensures.reads c.in-Err.ensures.tried
