use Rattle.replay_text.proofs.FromStd.{no_end}
use Rattle.replay_text.proofs.line.end_with.Goals as goal

pub returns-in_default : goal.returns-in_default
returns-in_default c = no_end c.args.word.now c.args.rest.now c.in_default.not-exit c.in_default.not-trap
