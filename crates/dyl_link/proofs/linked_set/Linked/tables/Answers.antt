use Rattle.std.proofs.Common.{subst}
use Rattle.spec_loading.specs.spec_linking.LinkedSets.{LinkedSet}
use Rattle.dyl_slots.specs.Tables.{AreTables}
use Rattle.dyl_link.proofs.linked_set.Linked.tables.Goals as goal

pub returns : goal.returns
returns c = subst (λ (L : LinkedSet). AreTables L c.self.inside.parts.ready.found.placed.tables) c.self.view_is c.self.invariant.ready.found.placed.all.tables
