use Rattle.std.proofs.Common.{sym}
use Rattle.snap_parts.proofs.TableEntries.{none_at}
use Rattle.snap_parts.proofs.tables.entry_at.Goals as goal

pub returns-in-Err : goal.returns-in-Err
returns-in-Err c = none_at c.args.table.now.entries c.args.i _ _ (sym c.in-Err.ensures)
