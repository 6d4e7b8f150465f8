use Rattle.std.proofs.Common.{ap, map, ◌∙◌}
use Rattle.spec_loading.specs.spec_linking.Sets.{ClosedSet}
use Rattle.dyl_slots.specs.dyl_search.Gathers.{member_of}
use Rattle.dyl_link.proofs.linked_set.Linked.members.Goals as goal

pub returns : goal.returns
returns c = ap (map member_of) c.items.ensures ∙ ap (λ (S : ClosedSet). S.members) c.set.ensures
