use Rattle.std.proofs.Common.{◌≡◌, drop}
use Rattle.std.specs.List.{flat_map}
use Rattle.dyl_link.specs.Bounds.{limits_as, all_limits}
use Rattle.dyl_link.proofs.sizes.bounds_by.Given as goal

abbrev pub invariant-loop-i : goal.invariant-loop-i
invariant-loop-i l = all_limits l.bounds (flat_map (limits_as l.shared) (drop l.i-index l.imports)) ≡ all_limits l.fn.b (flat_map (limits_as l.shared) l.imports)
