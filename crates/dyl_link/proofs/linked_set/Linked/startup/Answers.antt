use Rattle.std.proofs.Common.{ap, ◌∙◌}
use Rattle.spec_loading.specs.spec_linking.Sets.{ClosedSet}
use Rattle.dyl_link.proofs.linked_set.Linked.startup.Goals as goal

pub returns : goal.returns
returns c = c.items.ensures ∙ ap (λ (S : ClosedSet). S.startup) c.set.ensures
