use Rattle.replay_commands.proofs.Replayed.{replayed, done}
use Rattle.replay_commands.proofs.laws.traces_are_replayed.Goals as goal

pub returns-clause-due : goal.returns-clause-due
returns-clause-due c = replayed

pub returns-clause-done : goal.returns-clause-done
returns-clause-done c = done
