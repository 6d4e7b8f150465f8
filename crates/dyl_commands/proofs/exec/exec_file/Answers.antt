use Rattle.host_calls.specs.Embedders.{embedder_of}
use Rattle.dyl_commands.specs.Runs.{guest_arguments}
use Rattle.dyl_commands.proofs.Executing.{executed_serves, executed_works, never_done, set_not_done}
use Rattle.dyl_commands.proofs.Refusing.{exec_refused, refused_works}
use Rattle.dyl_commands.proofs.HeldNumbers.{read_numbers}
use Rattle.dyl_commands.proofs.Counting.{read_counts, unread_counts, executed_no_fault}
use Rattle.dyl_commands.proofs.exec.exec_file.Goals as goal

pub exec_module-outcome-requires-clause-numbers : goal.exec_module-outcome-requires-clause-numbers
exec_module-outcome-requires-clause-numbers g c = read_numbers c.in-Ok.checked c.in-Ok.ensures.spelled

pub returns-in-Ok-clause-serves : goal.returns-in-Ok-clause-serves
returns-in-Ok-clause-serves g c =
    executed_serves (λ texts. embedder_of texts c.args.host.now) c.args.file.now c.args.steps c.args.args.now _ _ _ c.in-Ok.ensures _ _ c.exec_module-outcome.result c.exec_module-outcome.ensures.runs _ _

pub returns-in-Ok-clause-works : goal.returns-in-Ok-clause-works
returns-in-Ok-clause-works g c =
    executed_works (λ texts. embedder_of texts c.args.host.now) c.args.file.now c.args.steps c.args.args.now _ _ _ c.in-Ok.ensures _ _ c.exec_module-outcome.result c.exec_module-outcome.ensures.runs

pub returns-in-Err-clause-serves : goal.returns-in-Err-clause-serves
returns-in-Err-clause-serves g c = rw c.refused.ensures (exec_refused _ c.args.file.now c.args.steps c.args.args.now c.in-Err.fault _ _ _ _ c.in-Err.ensures)

pub returns-in-Err-clause-works : goal.returns-in-Err-clause-works
returns-in-Err-clause-works g c = rw c.refused.ensures (refused_works _ (λ texts. embedder_of texts c.args.host.now) c.args.file.now c.args.steps c.args.args.now c.in-Err.fault _)

pub returns-in-Ok-clause-done : goal.returns-in-Ok-clause-done
returns-in-Ok-clause-done g c = never_done c.in-Ok.checked (embedder_of (guest_arguments c.args.args.now) c.args.host.now) c.args.steps c.exec_module-outcome.result _ _ c.exec_module-outcome.ensures.runs

pub returns-in-Err-clause-done : goal.returns-in-Err-clause-done
returns-in-Err-clause-done g c = rw c.refused.ensures (set_not_done c.in-Err.fault)

pub returns-in-Ok-clause-counts : goal.returns-in-Ok-clause-counts
returns-in-Ok-clause-counts g c =
    read_counts c.args.file.now _ _ c.in-Ok.checked c.in-Ok.ensures c.exec_module-outcome.result
    (executed_no_fault c.in-Ok.checked (embedder_of (guest_arguments c.args.args.now) c.args.host.now) c.args.steps c.exec_module-outcome.result _ _ c.exec_module-outcome.ensures.runs)

pub returns-in-Err-clause-counts : goal.returns-in-Err-clause-counts
returns-in-Err-clause-counts g c = rw c.refused.ensures (unread_counts c.args.file.now _ _ c.in-Err.fault c.in-Err.ensures)
