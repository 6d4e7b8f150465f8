use Rattle.std.proofs.Common.{arith}
use Rattle.dyl_link.proofs.linked_set.Linked.closure.Goals as goal

pub closure-requires : goal.closure-requires
closure-requires c = let count = c.symbols.ensures.count in omega (arith, c.requires)

pub returns : goal.returns
returns c = c.closure.ensures c.args.self.now.set c.symbols.ensures
