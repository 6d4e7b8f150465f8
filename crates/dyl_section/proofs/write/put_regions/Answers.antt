use Rattle.spec_reading.proofs.of_spec_binary.Joined.{on_ok}
use Rattle.dyl_section.proofs.Subsections.{regions_short, regions_added}
use Rattle.dyl_section.proofs.write.put_regions.Goals as goal

pub put_subsection-requires : goal.put_subsection-requires
put_subsection-requires c =
    let first = rw c.new-contents.ensures.items at c.in_ok-put_u32.ensures.ok in
    rw c.deref.ensures.value (regions_short c.args.d.now _ _ _ _ first c.in_ok-put_u32-2.ensures.ok c.in_ok-put_u32-3.ensures.ok c.in_ok-put_u32-4.ensures.ok)

pub returns : goal.returns
returns c =
    let first = rw c.new-contents.ensures.items at c.in_ok-put_u32.ensures.ok in
    let framed = rw c.deref.ensures.value at c.put_subsection.ensures in
    on_ok c.put_subsection.result (regions_added c.args.d.now _ _ _ _ first c.in_ok-put_u32-2.ensures.ok c.in_ok-put_u32-3.ensures.ok c.in_ok-put_u32-4.ensures.ok _ _) framed
