use Rattle.std.proofs.Common.{rules}
use Rattle.spec_reading.proofs.of_spec_binary.Joined.{on_ok}
use Rattle.wasm_encode.proofs.SectionForms.{list_added, long_part, long_whole}
use Rattle.wasm_encode.proofs.section.put_list.Goals as goal

pub returns-clause-ok : goal.returns-clause-ok
returns-clause-ok g c =
    let contents = rw c.new-contents.ensures.items at c.in_ok-put_vec.ensures.ok in
    let framed = rw c.deref.ensures.value at c.put_framed.ensures.ok in
    on_ok c.put_framed.result (list_added c.args.id c.args.items.now c.put_vec.new.to.items _ _ c.requires.some contents) framed

pub returns-in_err-put_vec-clause-long : goal.returns-in_err-put_vec-clause-long
returns-in_err-put_vec-clause-long g c = λ e. long_part c.args.items.now (search rules)

pub returns-clause-long : goal.returns-clause-long
returns-clause-long g c = λ e.
    let contents = rw c.new-contents.ensures.items at c.in_ok-put_vec.ensures.ok in
    let long = rw c.deref.ensures.value at (c.put_framed.ensures.long e) in
    long_whole c.args.items.now c.put_vec.new.to.items contents long
