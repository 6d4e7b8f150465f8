use Rattle.host_calls.specs.Embedders.{names_of, embedder_of}
use Rattle.dyl_commands.specs.Served.{BeginsAsModule}
use Rattle.dyl_commands.specs.Runs.{guest_arguments}
use Rattle.dyl_commands.proofs.HeldNumbers.{read_numbers}
use Rattle.dyl_commands.proofs.Executing.{set_not_done}
use Rattle.replay_commands.proofs.Tracing.{module_trace_serves, module_trace_works, module_trace_not_done, file_trace_refused, file_trace_idle}
use Rattle.replay_commands.proofs.Writing.{module_writes, file_unwritten}
use Rattle.replay_commands.proofs.Counting.{module_trace_counts, file_trace_counts}
use Rattle.replay_commands.proofs.trace.trace_file.Goals as goal

pub trace_module-outcome-requires-clause-numbers : goal.trace_module-outcome-requires-clause-numbers
trace_module-outcome-requires-clause-numbers g c = read_numbers c.in-Ok.checked c.in-Ok.ensures.spelled

pub returns-in-Ok-clause-serves : goal.returns-in-Ok-clause-serves
returns-in-Ok-clause-serves g c =
    module_trace_serves (λ texts. embedder_of texts c.args.host.now) c.args.set.now c.args.link.now c.args.steps c.args.out.now c.args.args.now c.in-Ok.checked _ _ _ (rw c.as_str.ensures at c.in-Ok.ensures) _ _ c.trace_module-outcome.result
    c.trace_module-outcome.ensures _ _

pub returns-in-Ok-clause-works : goal.returns-in-Ok-clause-works
returns-in-Ok-clause-works g c =
    module_trace_works (λ texts. embedder_of texts c.args.host.now) c.args.set.now c.args.link.now c.args.steps c.args.out.now c.args.args.now c.in-Ok.checked _ _ _ (rw c.as_str.ensures at c.in-Ok.ensures) _ _ c.trace_module-outcome.result
    c.trace_module-outcome.ensures

pub returns-in-Ok-clause-done : goal.returns-in-Ok-clause-done
returns-in-Ok-clause-done g c =
    module_trace_not_done (λ texts. embedder_of texts c.args.host.now) c.args.set.now c.args.link.now c.args.steps c.args.out.now c.args.args.now c.in-Ok.checked _ _ _ (rw c.as_str.ensures at c.in-Ok.ensures) _ _ c.trace_module-outcome.result
    c.trace_module-outcome.ensures

pub returns-in-Err-clause-serves : goal.returns-in-Err-clause-serves
returns-in-Err-clause-serves g c =
    rw c.refused.ensures (file_trace_refused (names_of c.args.host.now) c.args.set.now c.args.link.now c.args.steps c.args.out.now c.args.args.now c.in-Err.fault _ _ (rw c.as_str.ensures at c.in-Err.ensures) _ _)

pub returns-in-Err-clause-works : goal.returns-in-Err-clause-works
returns-in-Err-clause-works g c =
    rw c.refused.ensures
    (file_trace_idle (names_of c.args.host.now) c.args.set.now c.args.link.now c.args.steps c.args.out.now c.args.args.now c.in-Err.fault _ _ (rw c.as_str.ensures at c.in-Err.ensures) _
    (embedder_of (guest_arguments c.args.args.now) c.args.host.now) _)

pub returns-in-Err-clause-done : goal.returns-in-Err-clause-done
returns-in-Err-clause-done g c = rw c.refused.ensures (set_not_done c.in-Err.fault)

pub returns-in-Ok-clause-counts : goal.returns-in-Ok-clause-counts
returns-in-Ok-clause-counts g c =
    module_trace_counts _ _ _ _ c.in-Ok.checked (rw c.as_str.ensures at c.in-Ok.ensures) (embedder_of (guest_arguments c.args.args.now) c.args.host.now) c.args.steps
    (BeginsAsModule c.in-Ok.checked (names_of c.args.host.now)) c.args.out.now _ _ c.trace_module-outcome.result c.trace_module-outcome.ensures

pub returns-in-Err-clause-counts : goal.returns-in-Err-clause-counts
returns-in-Err-clause-counts g c = rw c.refused.ensures (file_trace_counts _ c.in-Err.fault _ _ (rw c.as_str.ensures at c.in-Err.ensures))

pub returns-in-Ok-clause-writes : goal.returns-in-Ok-clause-writes
returns-in-Ok-clause-writes g c =
    module_writes (embedder_of (guest_arguments c.args.args.now) c.args.host.now) c.args.set.now c.args.link.now c.args.steps c.args.out.now c.in-Ok.checked _ _ _ (rw c.as_str.ensures at c.in-Ok.ensures) _ _ c.trace_module-outcome.result
    c.trace_module-outcome.ensures

pub returns-in-Err-clause-writes : goal.returns-in-Err-clause-writes
returns-in-Err-clause-writes g c =
    rw c.refused.ensures
    (file_unwritten (embedder_of (guest_arguments c.args.args.now) c.args.host.now) c.args.set.now c.args.link.now c.args.steps c.args.out.now _ _ _ c.in-Err.fault (rw c.as_str.ensures at c.in-Err.ensures))
