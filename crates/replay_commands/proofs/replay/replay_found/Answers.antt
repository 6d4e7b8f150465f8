use Rattle.replay_commands.proofs.replay.replay_found.Goals as goal

pub returns-then-one-clause-replays : goal.returns-then-one-clause-replays
returns-then-one-clause-replays g c = rw c.if-one.true (c.replay_file.ensures.replays c.args.link.now)

pub returns-else-one-clause-replays : goal.returns-else-one-clause-replays
returns-else-one-clause-replays g c = rw c.if-one.false c.replay_set.ensures.replays

pub returns-then-one-clause-counts : goal.returns-then-one-clause-counts
returns-then-one-clause-counts g c = rw c.if-one.true c.replay_file.ensures.counts

pub returns-else-one-clause-counts : goal.returns-else-one-clause-counts
returns-else-one-clause-counts g c = rw c.if-one.false c.replay_set.ensures.counts
