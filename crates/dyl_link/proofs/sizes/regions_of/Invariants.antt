use Rattle.std.proofs.Common.{◌≡◌, ◌++◌, drop, map}
use Rattle.spec_loading.specs.spec_linking.Plans.{regions_of}
use Rattle.dyl_slots.specs.dyl_search.Gathers.{member_of}
use Rattle.dyl_slots.specs.dyl_plan.Regions.{region_of}
use Rattle.dyl_link.proofs.sizes.regions_of.Given as goal

abbrev pub invariant-loop-member : goal.invariant-loop-member
invariant-loop-member l = map region_of l.regions.items ++ regions_of (map member_of (drop l.member-index l.members)) ≡ regions_of (map member_of l.members)
