use Rattle.std.proofs.Common.{subst}
use Rattle.std.specs.List.{All}
use Rattle.spec_loading.specs.spec_linking.LinkedSets.{LinkedSet, hosts_of}
use Rattle.dyl_slots.specs.host_table.Names.{HaveIntegers}
use Rattle.dyl_link.specs.Sets.{IsSupported}
use Rattle.dyl_link.specs.Parts.{set_in}
use Rattle.dyl_link.proofs.SupportedHosts.{hosts_supported}
use Rattle.dyl_link.proofs.linked_set.Linked.hosts_have_integers.Goals as goal

pub returns-clause-integers : goal.returns-clause-integers
returns-clause-integers c = subst (λ (L : LinkedSet). HaveIntegers L.names) c.self.view_is c.self.invariant.integers

pub returns-clause-supported : goal.returns-clause-supported
returns-clause-supported c =
    subst (λ (L : LinkedSet). All IsSupported (hosts_of L)) c.self.view_is (hosts_supported (set_in c.self.inside.parts) c.self.invariant.links c.self.invariant.integers)
