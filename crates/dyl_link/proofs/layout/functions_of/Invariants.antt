use Rattle.std.proofs.Common.{◌≡◌, length, None}
use Rattle.spec_loading.specs.spec_linking.LinkedSets.{LinkedSet}
use Rattle.spec_loading.specs.spec_linking.Links.{members_fault}
use Rattle.dyl_slots.specs.dyl_imports.Kept.{AreImportsOf}
use Rattle.dyl_slots.specs.Given.{AllAt}
use Rattle.dyl_link.specs.Steps.{AreNamed}
use Rattle.dyl_link.proofs.layout.functions_of.Given as goal

abbrev pub invariant-loop-m : goal.invariant-loop-m
invariant-loop-m l = record {
  count : length l.functions.items ≡ l.m;
  exact : (L : LinkedSet) → AreImportsOf L l.imports → members_fault L 0 L.set.members ≡ None → AllAt (AreNamed L) l.functions.items;
}
