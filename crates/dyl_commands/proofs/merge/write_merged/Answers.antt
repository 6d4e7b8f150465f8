use Rattle.std.proofs.Common.{Err, ap}
use Rattle.dyl_commands.proofs.Merging.{stored_merged, not_merged}
use Rattle.dyl_commands.proofs.merge.write_merged.Goals as goal

pub returns-in-Ok-store_output-clause-written : goal.returns-in-Ok-store_output-clause-written
returns-in-Ok-store_output-clause-written g c =
    rw c.done.ensures (stored_merged c.args.linked.now c.args.out.now c.deref.result.now (g.F.Files.seen c.args.files.now) (g.F.Files.seen c.store_output.new.files) (rw c.deref.ensures.value c.in-Ok.ensures.merged) c.in-Ok-store_output.ensures.stored)

pub returns-clause-written : goal.returns-clause-written
returns-clause-written g c =
    rw c.unmerged.ensures
    (not_merged c.args.linked.now c.args.out.now c.in-Err.fault (g.F.Files.seen c.args.files.now) (λ id is. c.in-Err.ensures.long id (ap Err is)))
