use Rattle.replay_text.proofs.FromStd.{no_line}
use Rattle.replay_text.proofs.line.line_of.Goals as goal

pub returns-in-Err : goal.returns-in-Err
returns-in-Err c = no_line c.args.bytes.now c.in-Err.ensures.cases.0
