use Rattle.std.proofs.Common.{◌≡◌, drop}
use Rattle.spec_loading.specs.spec_linking.LinkedSets.{LinkedSet}
use Rattle.spec_loading.specs.spec_linking.Links.{members_fault}
use Rattle.dyl_slots.specs.dyl_imports.Kept.{AreImportsOf}
use Rattle.dyl_link.proofs.members.members_fault.Given as goal

abbrev pub invariant-loop-m : goal.invariant-loop-m
invariant-loop-m l = (L : LinkedSet) → AreImportsOf L l.imports → members_fault L l.m (drop l.m L.set.members) ≡ members_fault L 0 L.set.members
