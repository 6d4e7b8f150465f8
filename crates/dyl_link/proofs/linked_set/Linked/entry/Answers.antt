use Rattle.std.proofs.Common.{◌≡◌, Some, subst}
use Rattle.spec_loading.specs.spec_linking.LinkedSets.{LinkedSet}
use Rattle.spec_loading.specs.spec_linking.Links.{set_entry}
use Rattle.dyl_link.proofs.linked_set.Linked.entry.Goals as goal

pub returns : goal.returns
returns c = subst (λ (L : LinkedSet). set_entry L.set.members ≡ Some c.self.inside.parts.ready.found.entry) c.self.view_is c.self.invariant.ready.found.entry
