use Rattle.std.proofs.Common.{sym, ap, subst, ◌∙◌}
use Rattle.merge_start.specs.Listed.{AreFew, opening_with, handle_part}
use Rattle.merge_start.proofs.Linked.{closure_few, post_few}
use Rattle.merge_start.proofs.Tasks.{open_is}
use Rattle.merge_start.proofs.openings.open_function.Goals as goal

pub opening_code-requires-clause-breadth : goal.opening_code-requires-clause-breadth
opening_code-requires-clause-breadth c =
    subst AreFew (sym c.closure-closure.ensures) (closure_few c.args.linked.now c.links.ensures.shape c.args.m c.requires.member)

pub opening_code-requires-clause-post : goal.opening_code-requires-clause-post
opening_code-requires-clause-post c =
    subst AreFew (sym c.construct_order.ensures) (post_few c.args.linked.now c.links.ensures.shape c.args.m c.requires.member)

pub returns : goal.returns
returns c = λ N x listed.
    c.in_ok-part.ensures
    ∙ ap handle_part
    (c.in_ok-code.ensures
    ∙ ap (opening_with c.args.n.now c.closure-closure.result.now c.construct_order.result.now) c.number-handle.ensures
    ∙ open_is c.args.linked.now c.args.n.now N x listed c.args.m c.closure-closure.result.now c.construct_order.result.now
    c.closure-closure.ensures c.construct_order.ensures)
