use Rattle.replay_commands.proofs.Opened.{made_opened, stored_begins}
use Rattle.replay_commands.proofs.trace.store_module_trace.Goals as goal

pub store_trace-outcome-requires-clause-made : goal.store_trace-outcome-requires-clause-made
store_trace-outcome-requires-clause-made g c = made_opened c.args.checked (record { ref_ptr = c.args.checked.ref_ptr; now = c.in-Ok.names }) _ c.in-Ok.ensures.names c.args.ran c.requires.made

pub returns-in-Ok : goal.returns-in-Ok
returns-in-Ok g c = stored_begins c.args.checked (record { ref_ptr = c.args.checked.ref_ptr; now = c.in-Ok.names }) _ c.in-Ok.ensures.names c.args.ran c.args.out.now c.store_trace-outcome.result _ _ c.store_trace-outcome.ensures
