use Rattle.std.proofs.Common.{sym, ap, subst, ◌∙◌}
use Rattle.spec_loading.proofs.of_spec_linking.LinkedFacts.{linked_entry}
use Rattle.merge_start.specs.Listed.{AreFew, nullary_part}
use Rattle.merge_start.proofs.Linked.{startup_few, post_few}
use Rattle.merge_start.proofs.Tasks.{entry_is}
use Rattle.merge_start.proofs.openings.entry_function.Goals as goal

pub opening_code-requires-clause-breadth : goal.opening_code-requires-clause-breadth
opening_code-requires-clause-breadth c = subst AreFew (sym c.startup-startup.ensures) (startup_few c.args.linked.now c.links.ensures.shape)

pub opening_code-requires-clause-post : goal.opening_code-requires-clause-post
opening_code-requires-clause-post c =
    let shape = c.links.ensures.shape in
    subst AreFew (sym c.construct_order.ensures) (post_few c.args.linked.now shape 0 shape.some)

pub returns : goal.returns
returns c = λ N x listed.
    let L = c.args.linked.now in
    let entry = linked_entry L c.links.ensures.links in
    c.nullary_part.ensures
    ∙ ap nullary_part
    (c.in_ok-code.ensures
    ∙ entry_is L c.args.n.now N x listed c.startup-startup.result.now c.construct_order.result.now
    c.startup-startup.ensures c.construct_order.ensures entry.0 entry.1)
