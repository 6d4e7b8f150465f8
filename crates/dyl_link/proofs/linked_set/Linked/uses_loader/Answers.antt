use Rattle.std.proofs.Common.{ap, ◌∙◌}
use Rattle.spec_loading.specs.Members.{uses_loader}
use Rattle.dyl_link.proofs.linked_set.Linked.uses_loader.Goals as goal

pub returns : goal.returns
returns c = c.self.invariant.ready.found.uses_loader ∙ ap uses_loader c.self.view_is
