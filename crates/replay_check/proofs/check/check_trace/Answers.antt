use Rattle.std.proofs.Common.{arith}
use Rattle.replay_check.proofs.check.check_trace.Goals as goal

pub returns-in-Ok-None : goal.returns-in-Ok-None
returns-in-Ok-None c =
    let some = c.in-Ok.ensures.0 in
    (omega arith, some.0, some.1, rw c.in-Ok-None.field-0-is at (c.in-Ok-None.ensures some.0 (c.in-Ok.ensures.1 some.0 some.1)))

pub returns-in-Ok-Some : goal.returns-in-Ok-Some
returns-in-Ok-Some c =
    let some = c.in-Ok.ensures.0 in
    let told = rw c.in-Ok-Some.field-0-is at (c.in-Ok-Some.ensures some.0 (c.in-Ok.ensures.1 some.0 some.1)) in
    (omega arith, some.0, some.1, told.0, told.1)
