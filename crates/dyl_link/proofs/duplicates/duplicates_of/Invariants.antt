use Rattle.std.proofs.Common.{◌≡◌, drop}
use Rattle.spec_loading.specs.spec_linking.Sets.{ClosedSet}
use Rattle.spec_loading.specs.spec_linking.Links.{first_fault}
use Rattle.dyl_slots.specs.dyl_scope.Scopes.{AreOf}
use Rattle.dyl_link.specs.Duplicates.{duplicate_by}
use Rattle.dyl_link.proofs.duplicates.duplicates_of.Given as goal

abbrev pub invariant-loop-e : goal.invariant-loop-e
invariant-loop-e l = (S : ClosedSet) → AreOf S l.symbols → first_fault (duplicate_by S l.earlier l.m) (drop l.e-index l.exports) ≡ first_fault (duplicate_by S l.earlier l.m) l.exports
