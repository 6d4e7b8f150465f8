use Rattle.std.proofs.Common.{◌++◌, List, ap₂, ◌∙◌}
use Rattle.wasm_form.specs.declared.module.Elem.{Elem}
use Rattle.merge_start.proofs.ListedItems.{listed_is_renumbered}
use Rattle.merge_start.proofs.passive.passive_elems.Goals as goal

pub returns-clause-renumbered : goal.returns-clause-renumbered
returns-clause-renumbered c = λ N named.
    c.in_ok-append.ensures.items ∙ ap₂ (λ (a b : List Elem). a ++ b) c.in_ok-elems.ensures c.in_ok-slots.ensures
    ∙ listed_is_renumbered c.args.linked.now c.links.ensures.shape c.links.ensures.links c.args.n.now N named
