use Rattle.std.proofs.Common.{◌≤◌, subst}
use Rattle.spec_loading.specs.spec_linking.LinkedSets.{LinkedSet}
use Rattle.spec_loading.specs.spec_linking.Slots.{linked_plan}
use Rattle.dyl_link.proofs.linked_set.Linked.has_few_pages.Goals as goal

pub returns : goal.returns
returns c = subst (λ (L : LinkedSet). (linked_plan L).pages_max ≤ 16384) c.self.view_is c.self.invariant.pages
