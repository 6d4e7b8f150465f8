use Rattle.std.proofs.Common.{rules}
use Rattle.dyl_front.specs.Orders.{order_of}
use Rattle.dyl_front.proofs.Ranges.{in_range, read_in_range}
use Rattle.dyl_front.proofs.words.read_words.Goals as goal

pub returns-clause-range : goal.returns-clause-range
returns-clause-range c = read_in_range c.order_asked.result (order_of c.args.words.now) (λ o e. search rules) (in_range c.args.words.now)
