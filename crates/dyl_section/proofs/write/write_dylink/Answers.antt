use Rattle.dyl_section.proofs.Subsections.{written_says, written_whole, exports_short, imports_short}
use Rattle.dyl_section.specs.Written.{IsWritten}
use Rattle.dyl_section.proofs.write.write_dylink.Goals as goal

pub put_list-requires-2 : goal.put_list-requires-2
put_list-requires-2 c = rw c.items-2.ensures (exports_short c.args.d.now.exports c.requires.exports)

pub put_list-requires-3 : goal.put_list-requires-3
put_list-requires-3 c = rw c.items-3.ensures (imports_short c.args.d.now.imports c.requires.imports)

written : (c : goal.In_ok-put_list-4) → IsWritten c.args.d.now c.put_list-4.new.to.items
written c =
    let a2 = rw c.items.ensures at c.in_ok-put_list.ensures in
    let a3 = rw c.items-2.ensures at c.in_ok-put_list-2.ensures in
    let a4 = rw c.items-3.ensures at c.in_ok-put_list-3.ensures in
    let a5 = rw c.items-4.ensures at c.in_ok-put_list-4.ensures in
    written_whole c.args.d.now c.new-bytes.result.items c.put_regions.new.to.items c.put_list.new.to.items c.put_list-2.new.to.items c.put_list-3.new.to.items c.put_list-4.new.to.items
    c.new-bytes.ensures.items c.in_ok-put_regions.ensures a2 a3 a4 a5

pub returns-clause-said : goal.returns-clause-said
returns-clause-said c = written_says c.args.d.now c.put_list-4.new.to.items c.requires.mem_align c.requires.table_align (written c)

pub returns-clause-written : goal.returns-clause-written
returns-clause-written c = written c
