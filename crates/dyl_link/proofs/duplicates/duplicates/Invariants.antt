use Rattle.std.proofs.Common.{◌≡◌, drop, map}
use Rattle.std.specs.List.{range_with_len}
use Rattle.spec_loading.specs.spec_linking.Sets.{ClosedSet}
use Rattle.spec_loading.specs.spec_linking.Gathering.{IsSet}
use Rattle.spec_loading.specs.spec_linking.Links.{duplicates_from}
use Rattle.dyl_slots.specs.dyl_search.Gathers.{member_of}
use Rattle.dyl_slots.specs.dyl_scope.Scopes.{AreOf}
use Rattle.dyl_link.proofs.duplicates.duplicates.Given as goal

abbrev pub invariant-loop-m : goal.invariant-loop-m
invariant-loop-m l = record {
  earlier : l.earlier.items ≡ range_with_len 0 l.m;
  rest : (S : ClosedSet) → AreOf S l.symbols → IsSet S → S.members ≡ map member_of l.members
      → duplicates_from S.members l.m (drop l.m S.members) ≡ duplicates_from S.members 0 S.members;
}
