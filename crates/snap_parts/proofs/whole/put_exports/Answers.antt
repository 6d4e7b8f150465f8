use Rattle.std.proofs.Common.{None, ap}
use Rattle.snap_parts.proofs.whole.put_exports.Goals as goal

pub returns : goal.returns
returns c = record { is = ap (λ x. record c.args.to.now { exports = x; start = None }) c.in_ok-exports.ensures }
