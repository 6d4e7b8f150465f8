use Rattle.std.proofs.Common.{arith}
use Rattle.snap_parts.specs.Zips.{table_by}
use Rattle.snap_parts.proofs.Zips.{zip_all}
use Rattle.snap_parts.proofs.globals.with_sizes.Goals as goal

pub returns : goal.returns
returns c = zip_all table_by c.args.tables.now c.args.now.now c.loop-k.k (omega arith) c.loop-k.list.items c.loop-k.invariant
