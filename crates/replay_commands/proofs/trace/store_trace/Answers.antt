use Rattle.std.proofs.Common.{inr}
use Rattle.replay_commands.proofs.trace.store_trace.Goals as goal

pub returns-in-Ok : goal.returns-in-Ok
returns-in-Ok g c = inr (c.deref.result.now, rw c.deref.ensures.value c.in-Ok.ensures, c.store_text.ensures.stored, c.store_text.ensures.counts)
