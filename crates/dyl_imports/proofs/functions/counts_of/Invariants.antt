use Rattle.std.proofs.Common.{◌≡◌, ◌++◌, drop, map}
use Rattle.dyl_search.specs.Gathers.{member_of}
use Rattle.dyl_imports.specs.Weak.{function_counts}
use Rattle.dyl_imports.proofs.functions.counts_of.Given as goal

abbrev pub invariant-loop-member : goal.invariant-loop-member
invariant-loop-member l = l.counts.items ++ function_counts (map member_of (drop l.member-index l.members)) ≡ function_counts (map member_of l.members)
