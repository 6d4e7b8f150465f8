use Rattle.replay_commands.proofs.Replaying.{module_checks}
use Rattle.replay_commands.proofs.replay.replay_module.Goals as goal

pub returns-in-Ok : goal.returns-in-Ok
returns-in-Ok g c = module_checks c.args.checked (record { ref_ptr = c.args.checked.ref_ptr; now = c.in-Ok.names }) _ c.in-Ok.ensures.names c.args.trace.now c.args.steps c.check_outcome-outcome.result c.check_outcome-outcome.ensures
