use Rattle.dyl_commands.proofs.Snapping.{stored_snapshot, unstored_snapshot, no_snapshot}
use Rattle.dyl_commands.proofs.snap.write_snapshot.Goals as goal

pub returns-in-Ok-store_output-clause-written : goal.returns-in-Ok-store_output-clause-written
returns-in-Ok-store_output-clause-written g c =
    rw c.done.ensures
    (stored_snapshot c.args.linked.now c.args.steps c.args.out.now c.deref.result.now (g.F.Files.seen c.args.files.now) (g.F.Files.seen c.store_output.new.files) (rw c.deref.ensures.value c.in-Ok.ensures.snapped)
    c.in-Ok-store_output.ensures.stored)

pub returns-in-Ok-clause-written : goal.returns-in-Ok-clause-written
returns-in-Ok-clause-written g c =
    unstored_snapshot c.args.linked.now c.args.steps c.args.out.now c.deref.result.now c.in-Err-store_output.outcome (g.F.Files.seen c.args.files.now) (g.F.Files.seen c.store_output.new.files)
    (rw c.deref.ensures.value c.in-Ok.ensures.snapped) c.in-Err-store_output.ensures.stored

pub returns-clause-written : goal.returns-clause-written
returns-clause-written g c =
    rw c.without_snapshot.ensures (no_snapshot c.args.linked.now c.args.steps c.args.out.now c.in-Err.fault (g.F.Files.seen c.args.files.now) c.in-Err.ensures.tells)
