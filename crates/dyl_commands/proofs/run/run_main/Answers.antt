use Rattle.std.proofs.Common.{ap}
use Rattle.spec_loading.specs.spec_linking.LinkedSets.{LinkedSet}
use Rattle.dyl_link.specs.dyl_search.Gathers.{options_of}
use Rattle.dyl_link.specs.Sets as links
use Rattle.host_calls.specs.Embedders.{names_of, embedder_of}
use Rattle.dyl_commands.specs.Runs.{guest_arguments}
use Rattle.dyl_commands.proofs.Running.{run_serves, run_works, runs_not_done}
use Rattle.dyl_commands.proofs.Refusing.{run_refused, run_idle, refused_not_done}
use Rattle.dyl_commands.proofs.Counting.{got_counts, run_no_fault, refused_counts}
use Rattle.dyl_commands.proofs.run.run_main.Goals as goal

pub run_linked-outcome-requires : goal.run_linked-outcome-requires
run_linked-outcome-requires g c =
    let got = c.in-Ok.ensures.got in
    record { names = ap (λ (L : LinkedSet). L.names) got.is; steps = c.requires.steps }

pub returns-in-Ok-clause-serves : goal.returns-in-Ok-clause-serves
returns-in-Ok-clause-serves g c =
    run_serves (embedder_of (guest_arguments c.args.args.now) c.args.host.now) c.args.set.now c.args.link.now c.args.steps c.in-Ok.linked _ _ c.in-Ok.ensures _ _ c.args.args.now c.run_linked-outcome.result c.run_linked-outcome.ensures.runs _ _

pub returns-in-Ok-clause-works : goal.returns-in-Ok-clause-works
returns-in-Ok-clause-works g c =
    run_works (embedder_of (guest_arguments c.args.args.now) c.args.host.now) c.args.set.now c.args.link.now c.args.steps c.in-Ok.linked _ _ c.in-Ok.ensures _ _ c.run_linked-outcome.result c.run_linked-outcome.ensures.runs

pub returns-in-Ok-clause-done : goal.returns-in-Ok-clause-done
returns-in-Ok-clause-done g c = runs_not_done c.in-Ok.linked (embedder_of (guest_arguments c.args.args.now) c.args.host.now) c.args.steps c.run_linked-outcome.result _ _ c.run_linked-outcome.ensures.runs

pub returns-in-Err-clause-serves : goal.returns-in-Err-clause-serves
returns-in-Err-clause-serves g c =
    run_refused (names_of c.args.host.now) c.args.set.now c.args.link.now _ _ _ _ c.in-Err.ensures.files c.args.steps c.args.args.now c.in-Err.outcome c.in-Err.ensures.fault

pub returns-in-Err-clause-works : goal.returns-in-Err-clause-works
returns-in-Err-clause-works g c =
    run_idle (names_of c.args.host.now) c.args.set.now c.args.link.now _ _ 0 0 c.in-Err.ensures.files _ c.args.steps (embedder_of (guest_arguments c.args.args.now) c.args.host.now) c.in-Err.outcome _ c.in-Err.ensures.fault

pub returns-in-Err-clause-done : goal.returns-in-Err-clause-done
returns-in-Err-clause-done g c = refused_not_done _ _ _ _ _ c.in-Err.outcome c.in-Err.ensures.fault

pub returns-in-Ok-clause-counts : goal.returns-in-Ok-clause-counts
returns-in-Ok-clause-counts g c =
    got_counts (names_of c.args.host.now) (options_of c.args.set.now) (links.options_of c.args.link.now) c.in-Ok.linked _ _ c.in-Ok.ensures c.run_linked-outcome.result
    (run_no_fault c.in-Ok.linked (embedder_of (guest_arguments c.args.args.now) c.args.host.now) c.args.steps c.run_linked-outcome.result _ _ c.run_linked-outcome.ensures.runs)

pub returns-in-Err-clause-counts : goal.returns-in-Err-clause-counts
returns-in-Err-clause-counts g c =
    refused_counts (names_of c.args.host.now) (options_of c.args.set.now) (links.options_of c.args.link.now) _ _ c.in-Err.ensures.writes c.in-Err.ensures.absents c.in-Err.outcome
    c.in-Err.ensures.fault c.in-Err.ensures.reads c.in-Err.ensures.tried
