use Rattle.replay_commands.proofs.Replaying.{few_calls}
use Rattle.replay_commands.proofs.replay.check_outcome.Goals as goal

pub check_trace-requires-clause-few : goal.check_trace-requires-clause-few
check_trace-requires-clause-few c = few_calls c.args.trace.now c.requires.text.bytes c.requires.text.few c.requires.text.text
