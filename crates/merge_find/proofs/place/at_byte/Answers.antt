use Rattle.std.proofs.Common.{arith}
use Rattle.merge_find.proofs.Halving.{at_byte_some}
use Rattle.merge_find.proofs.place.at_byte.Goals as goal

pub returns-clause-code : goal.returns-clause-code
returns-clause-code c g xs some texts = at_byte_some g c.args.i c.args.left c.args.deep xs (omega (arith, c.if-left-eq0.false)) some texts
