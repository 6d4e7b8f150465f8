use Rattle.dyl_commands.proofs.plan.put_listing.Goals as goal

pub returns-in-Ok-put : goal.returns-in-Ok-put
returns-in-Ok-put g c = rw c.done.ensures (rw (c.deref.ensures.value, c.in-Ok.ensures) at c.in-Ok-put.ensures)
