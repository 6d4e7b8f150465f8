use Rattle.std.proofs.Common.{arith}
use Rattle.dyl_world.proofs.Known.{no_address}
use Rattle.dyl_world.proofs.searching.address.Goals as goal

pub returns-else-m-member_count : goal.returns-else-m-member_count
returns-else-m-member_count c = no_address c.args.linked.now c.args.m c.args.offset (omega arith)
