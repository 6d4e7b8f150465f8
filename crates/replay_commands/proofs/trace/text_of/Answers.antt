use Rattle.replay_check.specs.Checks.{IsOpened}
use Rattle.replay_commands.proofs.Tracing.{text_for}
use Rattle.replay_commands.proofs.trace.text_of.Goals as goal

pub trace_of-requires-clause-run : goal.trace_of-requires-clause-run
trace_of-requires-clause-run c = (c.requires.made.some.0, c.requires.made.some.1, c.requires.made.runs c.requires.made.some.0 c.requires.made.some.1)

pub returns-in-Ok : goal.returns-in-Ok
returns-in-Ok c = text_for (IsOpened c.args.program.now) c.args.ran.now c.in-Ok.trace c.print_trace-text.result c.requires.made c.in-Ok.ensures.traces c.in-Ok.ensures.range c.print_trace-text.ensures
