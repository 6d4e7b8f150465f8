use Rattle.std.proofs.Common.{arith}
use Rattle.dyl_store.proofs.SharedTable.{most_entries}
use Rattle.dyl_store.proofs.shared.empty_table.Goals as goal

pub new-requires-clause-within : goal.new-requires-clause-within
new-requires-clause-within c =
    let le = (most_entries c.args.linked.now c.links.ensures.links).0 in
    omega (arith, c.table_entries.ensures, c.table_max.ensures)

pub new-requires-clause-most : goal.new-requires-clause-most
new-requires-clause-most c =
    let le = (most_entries c.args.linked.now c.links.ensures.links).1 in
    omega (arith, c.table_max.ensures)
