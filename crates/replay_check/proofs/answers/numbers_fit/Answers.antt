use Rattle.std.proofs.Common.{sym}
use Rattle.replay_check.proofs.Fitting.{other_count}
use Rattle.replay_check.proofs.answers.numbers_fit.Goals as goal

pub returns-then-types-numbers : goal.returns-then-types-numbers
returns-then-types-numbers c = sym (other_count c.args.types.now c.args.numbers.now c.if-types-numbers.true)
