use Rattle.replay_commands.proofs.trace.trace_main.Goals as goal

pub returns-then-one-clause-writes : goal.returns-then-one-clause-writes
returns-then-one-clause-writes g c = rw c.if-one.true c.trace_file.ensures.writes

pub returns-else-one-clause-writes : goal.returns-else-one-clause-writes
returns-else-one-clause-writes g c = rw c.if-one.false c.trace_set.ensures.writes
