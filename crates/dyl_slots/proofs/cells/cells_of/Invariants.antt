use Rattle.std.proofs.Common.{◌≡◌, length, map}
use Rattle.spec_loading.specs.spec_linking.LinkedSets.{LinkedSet}
use Rattle.dyl_imports.specs.dyl_search.Gathers.{member_of}
use Rattle.dyl_slots.specs.Given.{AllAt}
use Rattle.dyl_slots.specs.Found.{IsKnownOf, IsCellsOf}
use Rattle.dyl_slots.proofs.cells.cells_of.Given as goal

abbrev pub invariant-loop-m : goal.invariant-loop-m
invariant-loop-m l = record {
  count : length l.all.items ≡ l.m;
  exact : (L : LinkedSet) → IsKnownOf L l.known → L.set.members ≡ map member_of l.known.imports.now.known.members.now → AllAt (IsCellsOf L) l.all.items;
}
