use Rattle.dyl_commands.proofs.Reading.{fetched, absent, unread, too_long, unfetched}
use Rattle.dyl_commands.proofs.one_file.fetch_file.Goals as goal

pub returns-in-Ok : goal.returns-in-Ok
returns-in-Ok g c = fetched c.args.path.now _ _ c.in-Ok.bytes c.in-Ok.ensures

pub returns-in-Err-Absent : goal.returns-in-Err-Absent
returns-in-Err-Absent g c = absent c.args.path.now _ _ c.missing.result c.missing.ensures (rw c.in-Err-Absent.field-0-is at c.in-Err-Absent.ensures)

pub returns-in-Err-Failed : goal.returns-in-Err-Failed
returns-in-Err-Failed g c = unread c.args.path.now _ _ c.unread.result c.unread.ensures (rw c.in-Err-Failed.field-0-is at c.in-Err-Failed.ensures)

pub returns-in-Err-TooLong : goal.returns-in-Err-TooLong
returns-in-Err-TooLong g c = too_long c.args.path.now _ _ (rw c.in-Err-TooLong.field-0-is at c.in-Err-TooLong.ensures)

pub returns-in-Err-Memory : goal.returns-in-Err-Memory
returns-in-Err-Memory g c = unfetched c.args.path.now _ _ (rw c.in-Err-Memory.field-0-is at c.in-Err-Memory.ensures)
