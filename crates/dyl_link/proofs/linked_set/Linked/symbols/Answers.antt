use Rattle.std.proofs.Common.{subst}
use Rattle.spec_loading.specs.spec_linking.LinkedSets.{LinkedSet}
use Rattle.dyl_slots.specs.dyl_scope.Scopes.{AreOf}
use Rattle.dyl_link.proofs.linked_set.Linked.symbols.Goals as goal

pub returns : goal.returns
returns c = subst (λ (L : LinkedSet). AreOf L.set c.self.inside.parts.ready.symbols) c.self.view_is c.self.invariant.ready.symbols
