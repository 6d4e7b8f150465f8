use Rattle.std.proofs.Common.{◌<◌, length, arith}
use Rattle.wasm_instance.proofs.AppliedSegments.{offset_is_number, table_is_there, elem_done}
use Rattle.wasm_instance.proofs.applying.apply_elem.Goals as goal

pub offset-requires-clause-number : goal.offset-requires-clause-number
offset-requires-clause-number c = offset_is_number c.args.m.now c.args.segment.now c.in-Active.table c.in-Active.at c.in-Active.is c.requires.fits

pub bounds-tables-table : goal.bounds-tables-table
bounds-tables-table c =
    let there = table_is_there c.args.m.now c.args.segment.now c.in-Active.table c.in-Active.at c.in-Active.is c.requires.fits c.requires.alone.imports in
    omega (arith, there, c.requires.tables)

pub returns-in_ok-at-in-Active-clause-applied : goal.returns-in_ok-at-in-Active-clause-applied
returns-in_ok-at-in-Active-clause-applied c =
    let m = c.args.m.now in
    let there = table_is_there m c.args.segment.now c.in-Active.table c.in-Active.at c.in-Active.is c.requires.fits c.requires.alone.imports in
    let inside : c.in-Active.table < length c.args.tables.now = omega (arith, there, c.requires.tables) in
    elem_done m c.move_entries.result (λ v. v.items) c.args.elems.now c.args.e c.in-Active.table c.count-n.result c.in_ok-at-in-Active.at c.args.segment.now c.in-Active.at c.args.tables.now
    c.index-tables-table.result c.move_entries.new.table c.index-elems-e.result c.move_entries.new.entries c.requires.elems inside c.count-n.ensures
    c.in-Active.is c.in_ok-at-in-Active.ensures c.move_entries.ensures
