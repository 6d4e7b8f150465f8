use Rattle.dyl_commands.proofs.Reading.{fetched_reads, unfetched_reads}
use Rattle.dyl_commands.proofs.one_file.read_module.Goals as goal

pub returns-in-Ok : goal.returns-in-Ok
returns-in-Ok g c = fetched_reads c.args.path.now _ _ c.in-Ok.bytes c.module_of.result c.in-Ok.ensures (rw c.deref.ensures.value at c.module_of.ensures.told) c.module_of.ensures.inner

pub returns-in-Err : goal.returns-in-Err
returns-in-Err g c = unfetched_reads c.args.path.now _ _ c.in-Err.fault c.in-Err.ensures
