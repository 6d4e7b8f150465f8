use Rattle.replay_check.proofs.Loading.{set_loads, one_loads}
use Rattle.replay_check.proofs.program.Program.load.Goals as goal

pub returns-in-Ok : goal.returns-in-Ok
returns-in-Ok c = rw c.in-Set.is (set_loads c.in-Set.linked c.in-Ok.store c.in-Ok.ensures)

pub returns-in-Ok-load : goal.returns-in-Ok-load
returns-in-Ok-load c = rw c.in-One.is (one_loads c.in-One.checked c.in-One.names c.in-Ok-load.single c.in-Ok-load.ensures.0 c.in-Ok-load.ensures.1)
