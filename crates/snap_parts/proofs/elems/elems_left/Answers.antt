use Rattle.std.proofs.Common.{arith}
use Rattle.snap_parts.specs.Zips.{elem_by}
use Rattle.snap_parts.proofs.Zips.{zip_all}
use Rattle.snap_parts.proofs.elems.elems_left.Goals as goal

pub returns : goal.returns
returns c = zip_all elem_by c.args.elems.now c.args.left.now c.loop-k.k (omega arith) c.loop-k.list.items c.loop-k.invariant
