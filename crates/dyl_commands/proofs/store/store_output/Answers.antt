use Rattle.dyl_commands.proofs.Counting.{at_least}
use Rattle.dyl_commands.proofs.store.store_output.Goals as goal

pub returns-in-Ok : goal.returns-in-Ok
returns-in-Ok g c =
    let stores = c.in-Ok.ensures in
    record { stored = stores.files; counts = record { reads = stores.reads; stores = stores.writes; absents = stores.absents } }

pub returns-in-Err-Failed : goal.returns-in-Err-Failed
returns-in-Err-Failed g c =
    let stores = rw c.in-Err-Failed.field-0-is at c.in-Err-Failed.ensures in
    record { stored = (stores.files, stores.writes); counts = record { reads = stores.reads; stores = stores.writes; absents = stores.absents } }

pub returns-in-Err-Memory : goal.returns-in-Err-Memory
returns-in-Err-Memory g c =
    let stores = rw c.in-Err-Memory.field-0-is at c.in-Err-Memory.ensures in
    record { stored = stores.files; counts = record { reads = stores.reads; stores = at_least _ _ stores.writes; absents = stores.absents } }
