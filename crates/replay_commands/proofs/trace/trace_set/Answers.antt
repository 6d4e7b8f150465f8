use Rattle.std.proofs.Common.{ap}
use Rattle.spec_loading.specs.spec_linking.LinkedSets.{LinkedSet}
use Rattle.dyl_link.specs.dyl_search.Gathers.{options_of}
use Rattle.dyl_link.specs.Sets as links
use Rattle.host_calls.specs.Embedders.{names_of, embedder_of}
use Rattle.dyl_commands.specs.Served.{BeginsAsSet}
use Rattle.dyl_commands.specs.Runs.{guest_arguments}
use Rattle.dyl_commands.proofs.Refusing.{refused_not_done}
use Rattle.replay_commands.proofs.Tracing.{set_trace_serves, set_trace_works, set_trace_not_done, set_trace_refused, set_trace_idle}
use Rattle.replay_commands.proofs.Writing.{set_writes, set_unwritten}
use Rattle.dyl_commands.proofs.Counting.{unmerged_counts}
use Rattle.replay_commands.proofs.Counting.{set_trace_counts}
use Rattle.replay_commands.proofs.trace.trace_set.Goals as goal

pub trace_linked-outcome-requires : goal.trace_linked-outcome-requires
trace_linked-outcome-requires g c =
    let got = c.in-Ok.ensures.got in
    record { names = ap (λ (L : LinkedSet). L.names) got.is; steps = c.requires.steps }

pub returns-in-Ok-clause-serves : goal.returns-in-Ok-clause-serves
returns-in-Ok-clause-serves g c =
    set_trace_serves (embedder_of (guest_arguments c.args.args.now) c.args.host.now) c.args.set.now c.args.link.now c.args.steps c.args.out.now c.args.args.now c.in-Ok.linked _ _ _ c.in-Ok.ensures _ _ c.trace_linked-outcome.result c.trace_linked-outcome.ensures
    _ _

pub returns-in-Ok-clause-works : goal.returns-in-Ok-clause-works
returns-in-Ok-clause-works g c =
    set_trace_works (embedder_of (guest_arguments c.args.args.now) c.args.host.now) c.args.set.now c.args.link.now c.args.steps c.args.out.now c.args.args.now c.in-Ok.linked _ _ _ c.in-Ok.ensures _ _ c.trace_linked-outcome.result c.trace_linked-outcome.ensures

pub returns-in-Ok-clause-done : goal.returns-in-Ok-clause-done
returns-in-Ok-clause-done g c =
    set_trace_not_done (embedder_of (guest_arguments c.args.args.now) c.args.host.now) c.args.set.now c.args.link.now c.args.steps c.args.out.now c.args.args.now c.in-Ok.linked _ _ _ c.in-Ok.ensures _ _ c.trace_linked-outcome.result
    c.trace_linked-outcome.ensures

pub returns-in-Err-clause-serves : goal.returns-in-Err-clause-serves
returns-in-Err-clause-serves g c =
    set_trace_refused (names_of c.args.host.now) c.args.set.now c.args.link.now c.args.steps c.args.out.now c.args.args.now _ _ c.in-Err.ensures.files c.in-Err.outcome c.in-Err.ensures.fault _ _

pub returns-in-Err-clause-works : goal.returns-in-Err-clause-works
returns-in-Err-clause-works g c =
    set_trace_idle (names_of c.args.host.now) c.args.set.now c.args.link.now c.args.steps c.args.out.now c.args.args.now _ _ c.in-Err.ensures.files _ (embedder_of (guest_arguments c.args.args.now) c.args.host.now) c.in-Err.outcome _ c.in-Err.ensures.fault

pub returns-in-Err-clause-done : goal.returns-in-Err-clause-done
returns-in-Err-clause-done g c = refused_not_done _ _ _ _ _ c.in-Err.outcome c.in-Err.ensures.fault

pub returns-in-Ok-clause-counts : goal.returns-in-Ok-clause-counts
returns-in-Ok-clause-counts g c =
    set_trace_counts (options_of c.args.set.now) (links.options_of c.args.link.now) (names_of c.args.host.now) c.in-Ok.linked _ _ _ c.in-Ok.ensures (embedder_of (guest_arguments c.args.args.now) c.args.host.now) c.args.steps
    (BeginsAsSet c.in-Ok.linked) c.args.out.now _ _ c.trace_linked-outcome.result c.trace_linked-outcome.ensures

pub returns-in-Err-clause-counts : goal.returns-in-Err-clause-counts
returns-in-Err-clause-counts g c =
    unmerged_counts (names_of c.args.host.now) (options_of c.args.set.now) (links.options_of c.args.link.now) _ _ c.in-Err.ensures.writes c.in-Err.ensures.absents c.in-Err.outcome
    c.in-Err.ensures.fault c.in-Err.ensures.reads c.in-Err.ensures.tried

pub returns-in-Ok-clause-writes : goal.returns-in-Ok-clause-writes
returns-in-Ok-clause-writes g c =
    set_writes (embedder_of (guest_arguments c.args.args.now) c.args.host.now) c.args.set.now c.args.link.now c.args.steps c.args.out.now c.in-Ok.linked _ _ _ c.in-Ok.ensures _ _ c.trace_linked-outcome.result c.trace_linked-outcome.ensures

pub returns-in-Err-clause-writes : goal.returns-in-Err-clause-writes
returns-in-Err-clause-writes g c =
    set_unwritten (embedder_of (guest_arguments c.args.args.now) c.args.host.now) c.args.set.now c.args.link.now c.args.steps c.args.out.now _ _ c.in-Err.ensures.files _ c.in-Err.outcome c.in-Err.ensures.fault
