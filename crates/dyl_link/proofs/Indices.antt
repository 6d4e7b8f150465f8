-- The members of a linked set, and their bases.
use Rattle.std.proofs.Common.{◌≡◌, ◌+◌, List, length, map, sym, ap, ◌∙◌}
use Rattle.std.proofs.lemmas.List.{length-map}
use Rattle.spec_loading.specs.spec_linking.Sets.{Member}
use Rattle.spec_loading.specs.spec_linking.Plans.{stack_end, texts_size, sizes_of, region_of, regions_of}
use Rattle.spec_loading.specs.spec_linking.LinkedSets.{LinkedSet}
use Rattle.spec_loading.specs.spec_linking.Slots.{linked_plan}
use Rattle.spec_loading.proofs.of_spec_linking.Placing.{bases_length}
use Rattle.dyl_slots.specs.dyl_search.declared.set.Member as code
use Rattle.dyl_slots.specs.dyl_search.Gathers.{member_of}

pub bases_long : (L : LinkedSet) → length (linked_plan L).bases ≡ length L.set.members
bases_long L =
    bases_length (λ r. r.mem_size) (λ r. r.mem_align) (stack_end + (sizes_of L.set L.options).stack + texts_size) (regions_of L.set.members)
    ∙ length-map L.set.members (λ (m : Member). region_of m.dylink)

pub table_bases_long : (L : LinkedSet) → length (linked_plan L).table_bases ≡ length L.set.members
table_bases_long L =
    bases_length (λ r. r.table_size) (λ r. r.table_align) 1 (regions_of L.set.members)
    ∙ length-map L.set.members (λ (m : Member). region_of m.dylink)

-- there are as many members as are kept
pub members_count : (L : LinkedSet) (xs : List code.Member) → map member_of xs ≡ L.set.members → length L.set.members ≡ length xs
members_count L xs same = sym (ap length same) ∙ length-map xs member_of
