use Rattle.std.proofs.Common.{arith}
use Rattle.replay_commands.proofs.Tracing.{not_stored}
use Rattle.replay_commands.proofs.trace.store_text.Goals as goal

pub returns-in-Err-clause-stored : goal.returns-in-Err-clause-stored
returns-in-Err-clause-stored g c = not_stored c.args.ran c.args.out.now c.args.text.now c.in-Err.outcome _ _ (omega (arith, c.if-text-gt-MOST_RUN.false)) c.in-Err.ensures.stored
