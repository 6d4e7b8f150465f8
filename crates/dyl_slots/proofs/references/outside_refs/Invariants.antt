use Rattle.std.proofs.Common.{◌≡◌, ◌++◌, drop, map}
use Rattle.spec_loading.specs.spec_linking.LinkedSets.{LinkedSet}
use Rattle.spec_loading.specs.spec_linking.Slots.{outside_from, outside_refs}
use Rattle.dyl_imports.specs.dyl_search.Gathers.{member_of}
use Rattle.dyl_imports.specs.Kept.{AreImportsOf}
use Rattle.dyl_slots.proofs.references.outside_refs.Given as goal

abbrev pub invariant-loop-m : goal.invariant-loop-m
invariant-loop-m l = (L : LinkedSet) → AreImportsOf L l.imports → L.set.members ≡ map member_of l.imports.known.members.now
    → l.refs.items ++ outside_from L l.m (map member_of (drop l.m l.imports.known.members.now)) ≡ outside_refs L
