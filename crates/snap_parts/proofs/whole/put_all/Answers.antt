use Rattle.merge_index.specs.Kept.{numbers_in}
use Rattle.snap_parts.specs.Built.{store_in}
use Rattle.snap_parts.proofs.Building.{built}
use Rattle.snap_parts.proofs.whole.put_all.Goals as goal

pub returns : goal.returns
returns c =
    built (numbers_in c.args.numbers.now) (store_in c.args.flat) c.args.added c.args.memory.now c.args.entry c.args.to.now _ _ _ _ _ _
    c.in_ok-put_globals.ensures c.in_ok-put_tables.ensures c.in_ok-put_memory.ensures c.in_ok-put_exports.ensures c.in_ok-put_elems.ensures
    c.in_ok-put_datas.ensures
