use Rattle.std.proofs.Common.{◌≢◌, length, eqb-true, ◌∙◌, sym}
use Rattle.std.proofs.lemmas.Bool.{eqb-false}
use Rattle.spec_reading.proofs.of_spec_binary.Joined.{on_ok}
use Rattle.dyl_section.proofs.Subsections.{nothing_added, list_added, list_short, list_spelled}
use Rattle.dyl_section.proofs.write.put_list.Goals as goal

pub returns-then-is_empty : goal.returns-then-is_empty
returns-then-is_empty g c = nothing_added c.args.code c.args.items.now c.args.to.now.items (eqb-true (length c.args.items.now) 0 (sym c.is_empty.ensures ∙ c.if-is_empty.true))

pub put_vec-requires : goal.put_vec-requires
put_vec-requires g c = list_spelled c.requires

pub put_subsection-requires : goal.put_subsection-requires
put_subsection-requires g c =
    let contents = rw c.new-contents.ensures.items at c.in_ok-put_vec.ensures in
    rw c.deref.ensures.value (list_short _ c.requires contents)

pub returns : goal.returns
returns g c =
    let contents = rw c.new-contents.ensures.items at c.in_ok-put_vec.ensures in
    let framed = rw c.deref.ensures.value at c.put_subsection.ensures in
    let some : length c.args.items.now ≢ 0 = eqb-false (length c.args.items.now) 0 (sym c.is_empty.ensures ∙ c.if-is_empty.false) in
    on_ok c.put_subsection.result (list_added c.args.items.now c.args.code _ _ _ some contents) framed
