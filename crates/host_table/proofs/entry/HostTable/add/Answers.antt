use Rattle.host_table.proofs.entry.HostTable.add.Goals as goal

pub returns-in-Ok-clause-added : goal.returns-in-Ok-clause-added
returns-in-Ok-clause-added g c = rw c.in-Ok.ensures at c.push.ensures.added
