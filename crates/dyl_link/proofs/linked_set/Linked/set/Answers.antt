use Rattle.std.proofs.Common.{ap}
use Rattle.spec_loading.specs.spec_linking.LinkedSets.{LinkedSet}
use Rattle.dyl_link.proofs.linked_set.Linked.set.Goals as goal

pub returns : goal.returns
returns c = ap (λ (L : LinkedSet). L.set) c.self.view_is
