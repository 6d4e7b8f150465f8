use Rattle.std.proofs.Common.{◌≡◌, Err}
use Rattle.spec_loading.specs.spec_execution.OneModule.{module_opening}
use Rattle.host_calls.specs.Embedders.{names_of}
use Rattle.dyl_commands.proofs.HeldNumbers.{read_numbers}
use Rattle.replay_commands.proofs.Replaying.{module_replays, file_replay_refused}
use Rattle.dyl_commands.proofs.Counting.{unread_counts}
use Rattle.replay_commands.proofs.Counting.{module_replay_counts}
use Rattle.replay_commands.proofs.replay.replay_file.Goals as goal

pub replay_module-outcome-requires-clause-numbers : goal.replay_module-outcome-requires-clause-numbers
replay_module-outcome-requires-clause-numbers g c = read_numbers c.in-Ok.checked c.in-Ok.ensures.spelled

pub returns-in-Ok-clause-replays : goal.returns-in-Ok-clause-replays
returns-in-Ok-clause-replays g c = λ link.
    module_replays (names_of c.args.host.now) c.args.set.now link c.args.steps c.args.trace.now _ _ c.in-Ok.checked (rw c.as_str.ensures at c.in-Ok.ensures) c.replay_module-outcome.result c.replay_module-outcome.ensures

pub returns-in-Err-clause-replays : goal.returns-in-Err-clause-replays
returns-in-Err-clause-replays g c = rw c.refused.ensures (λ link. file_replay_refused (names_of c.args.host.now) c.args.set.now link c.args.steps c.args.trace.now _ _ c.in-Err.fault (rw c.as_str.ensures at c.in-Err.ensures))

pub returns-in-Ok-clause-counts : goal.returns-in-Ok-clause-counts
returns-in-Ok-clause-counts g c =
    module_replay_counts _ _ _ c.in-Ok.checked (rw c.as_str.ensures at c.in-Ok.ensures) _ (λ why. module_opening c.in-Ok.checked (names_of c.args.host.now) ≡ Err why) c.args.trace.now c.args.steps c.replay_module-outcome.result c.replay_module-outcome.ensures

pub returns-in-Err-clause-counts : goal.returns-in-Err-clause-counts
returns-in-Err-clause-counts g c = rw c.refused.ensures (unread_counts _ _ _ c.in-Err.fault (rw c.as_str.ensures at c.in-Err.ensures))
