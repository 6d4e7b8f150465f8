use Rattle.std.proofs.Common.{List, ℕ, not, sym, ap₂, ◌∙◌, subst}
use Rattle.std.proofs.lemmas.Result.{IfOk-weaker}
use Rattle.std.specs.List.{filter}
use Rattle.spec_loading.specs.spec_linking.Orders.{is_among}
use Rattle.merge_start.specs.Words.{promote_each}
use Rattle.merge_start.specs.Listed.{AreFew}
use Rattle.merge_start.proofs.Linked.{closure_few}
use Rattle.merge_dl.specs.Listed.{starts_in}
use Rattle.merge_dl.proofs.promoted.promote_code.Goals as goal

pub promote_each-requires-clause-few : goal.promote_each-requires-clause-few
promote_each-requires-clause-few c = subst AreFew (sym c.closure.ensures) (closure_few c.args.linked.now c.links.ensures.shape c.args.m c.requires.member)

pub returns : goal.returns
returns c =
    IfOk-weaker c.promote_each.result _ _
    (λ x is.
    is
    ∙ ap₂ (λ (startup members : List ℕ). promote_each (starts_in c.args.n.now) (filter (λ k. not (is_among k startup)) members))
    c.startup.ensures c.closure.ensures)
    c.promote_each.ensures
