use Rattle.std.proofs.Common.{arith}
use Rattle.dyl_link.proofs.linked_set.Linked.construct_order.Goals as goal

pub post_order-requires : goal.post_order-requires
post_order-requires c = let count = c.symbols.ensures.count in omega (arith, c.requires)

pub returns : goal.returns
returns c = c.post_order.ensures c.args.self.now.set c.symbols.ensures
