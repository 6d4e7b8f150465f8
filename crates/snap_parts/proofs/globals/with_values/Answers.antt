use Rattle.std.proofs.Common.{arith}
use Rattle.snap_parts.specs.Zips.{global_by}
use Rattle.snap_parts.proofs.Zips.{zip_all}
use Rattle.snap_parts.proofs.globals.with_values.Goals as goal

pub returns : goal.returns
returns c = zip_all global_by c.args.globals.now c.args.values.now c.loop-k.k (omega arith) c.loop-k.list.items c.loop-k.invariant
