use Rattle.std.proofs.Common.{ap, ◌∙◌}
use Rattle.spec_loading.specs.spec_linking.Slots.{linked_plan}
use Rattle.dyl_link.proofs.linked_set.Linked.plan.Goals as goal

pub returns : goal.returns
returns c = c.self.invariant.ready.found.placed.plan ∙ ap linked_plan c.self.view_is
