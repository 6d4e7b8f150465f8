use Rattle.std.proofs.Common.{sym, subst}
use Rattle.spec_loading.specs.spec_linking.LinkedSets.{LinkedSet}
use Rattle.dyl_link.specs.Functions.{AreFunctions}
use Rattle.dyl_link.proofs.Parts.{are_functions}
use Rattle.dyl_link.proofs.linked_set.Linked.functions.Goals as goal

pub returns : goal.returns
returns c =
    let placed = c.self.inside.parts.ready.found.placed in
    let L = c.args.self.now in
    let all = c.self.invariant.ready.found.placed.all in
    subst (λ fs. AreFunctions L fs) (sym c.as_slice.ensures.value)
    (subst (λ (S : LinkedSet). AreFunctions S placed.functions.items) c.self.view_is (are_functions _ placed.functions.items placed.tables all))
