use Rattle.std.proofs.Common.{◌<◌, ◌+◌, length, sym, ap, subst, ◌∙◌}
use Rattle.spec_loading.specs.spec_linking.Plans.{Plan}
use Rattle.spec_loading.specs.spec_linking.Slots.{fresh_functions}
use Rattle.merge_whole.proofs.ElementLists.{fresh_few}
use Rattle.merge_whole.proofs.built.elems.outside_elem.Goals as goal

pub fresh_total-first-requires : goal.fresh_total-first-requires
fresh_total-first-requires c =
    let L = c.args.linked.now in
    subst (λ n. n + length (fresh_functions L) < 4294967296) (sym (c.table_end.ensures ∙ ap (λ (p : Plan). p.table_end) c.plan.ensures))
    (fresh_few L c.links.ensures.links)
