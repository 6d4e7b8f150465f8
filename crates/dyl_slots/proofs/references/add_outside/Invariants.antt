use Rattle.std.proofs.Common.{◌≡◌, ◌++◌, drop}
use Rattle.std.specs.List.{filter_map}
use Rattle.spec_loading.specs.spec_linking.LinkedSets.{LinkedSet}
use Rattle.spec_loading.specs.spec_linking.Slots.{outside_of_import}
use Rattle.dyl_imports.specs.Kept.{AreImportsOf}
use Rattle.dyl_slots.proofs.references.add_outside.Given as goal

abbrev pub invariant-loop-i : goal.invariant-loop-i
invariant-loop-i l = (L : LinkedSet) → AreImportsOf L l.imports
    → l.refs.items ++ filter_map (outside_of_import L l.m) (drop l.i-index l.list) ≡ l.initial.refs.items ++ filter_map (outside_of_import L l.m) l.list
