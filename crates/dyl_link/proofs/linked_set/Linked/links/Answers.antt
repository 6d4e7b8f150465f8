use Rattle.std.proofs.Common.{subst}
use Rattle.spec_loading.specs.spec_linking.Gathering.{IsSet}
use Rattle.spec_loading.specs.spec_linking.LinkedSets.{LinkedSet}
use Rattle.spec_loading.specs.spec_linking.Links.{Links}
use Rattle.dyl_link.proofs.linked_set.Linked.links.Goals as goal

pub returns-clause-shape : goal.returns-clause-shape
returns-clause-shape c = subst (λ (L : LinkedSet). IsSet L.set) c.self.view_is c.self.invariant.shape

pub returns-clause-links : goal.returns-clause-links
returns-clause-links c = subst Links c.self.view_is c.self.invariant.links
