use Rattle.dyl_commands.proofs.error_line.tell_memory.Goals as goal

pub returns-clause-told : goal.returns-clause-told
returns-clause-told g c = (c.put.result, c.put.ensures)
