use Rattle.std.proofs.Common.{◌≡◌, drop, map}
use Rattle.spec_loading.specs.spec_linking.Plans.{least_of, maxima, table_limits, limits_in}
use Rattle.dyl_imports.specs.dyl_search.Gathers.{member_of}
use Rattle.dyl_slots.proofs.limits.least_maximum.Given as goal

abbrev pub invariant-loop-member : goal.invariant-loop-member
invariant-loop-member l = least_of l.least (maxima (limits_in table_limits (map member_of (drop l.member-index l.members)))) ≡ least_of l.bound (maxima (limits_in table_limits (map member_of l.members)))
