use Rattle.std.proofs.Common.{Err, ap}
use Rattle.dyl_commands.proofs.Generating.{in_range}
use Rattle.dyl_commands.proofs.generated.made_files.Goals as goal

pub returns-in-Ok : goal.returns-in-Ok
returns-in-Ok c =
    let range = in_range c.args.n (λ out. (let e = c.in-Ok.ensures.range.1 out in cc)) in
    record { some = range.0; few = range.1; generated = rw c.of.ensures c.in-Ok.ensures.files }

pub returns-in-Err-Range : goal.returns-in-Err-Range
returns-in-Err-Range c = c.in-Err-Range.ensures.range.0 (ap Err c.in-Err-Range.field-0-is)
