use Rattle.std.proofs.Common.{◌≡◌, drop, map}
use Rattle.spec_loading.specs.spec_linking.Plans.{limits_in}
use Rattle.dyl_slots.specs.dyl_search.Gathers.{member_of}
use Rattle.dyl_link.specs.Bounds.{limits_as, all_limits}
use Rattle.dyl_link.proofs.sizes.bounds_of.Given as goal

abbrev pub invariant-loop-member : goal.invariant-loop-member
invariant-loop-member l =
    all_limits l.bounds (limits_in (limits_as l.shared) (map member_of (drop l.member-index l.members)))
    ≡ all_limits (record { min = 0; max = l.most }) (limits_in (limits_as l.shared) (map member_of l.members))
