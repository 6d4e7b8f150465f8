use Rattle.std.proofs.Common.{◌≡◌, drop}
use Rattle.std.specs.List.{flat_map}
use Rattle.spec_loading.specs.spec_linking.Plans.{least_of, maxima, table_limits}
use Rattle.dyl_slots.proofs.limits.with_imports.Given as goal

abbrev pub invariant-loop-i : goal.invariant-loop-i
invariant-loop-i l = least_of l.least (maxima (flat_map table_limits (drop l.i-index l.imports))) ≡ least_of l.bound (maxima (flat_map table_limits l.imports))
