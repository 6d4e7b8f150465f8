use Rattle.dyl_commands.proofs.generated.put_summary.Goals as goal

pub returns-in-Ok-put : goal.returns-in-Ok-put
returns-in-Ok-put g c = (c.in-Ok-both.ensures, rw (c.deref.ensures.value, c.in-Ok.ensures) at c.in-Ok-put.ensures)
