use Rattle.std.proofs.Common.{ap, map, ◌∙◌}
use Rattle.spec_loading.specs.spec_linking.LinkedSets.{hosts_of}
use Rattle.dyl_slots.specs.host_table.Names.{host_name_of}
use Rattle.dyl_link.proofs.linked_set.Linked.hosts.Goals as goal

pub returns : goal.returns
returns c = ap (map host_name_of) c.as_slice.ensures.value ∙ c.self.invariant.ready.found.hosts ∙ ap hosts_of c.self.view_is
