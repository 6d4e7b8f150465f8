use Rattle.std.proofs.Common.{◌≡◌, drop}
use Rattle.std.specs.List.{list_any}
use Rattle.spec_loading.specs.spec_linking.Imports.{use_of}
use Rattle.spec_loading.specs.spec_linking.LinkedSets.{LinkedSet}
use Rattle.spec_loading.specs.Members.{loader_as}
use Rattle.dyl_imports.specs.Kept.{AreImportsOf}
use Rattle.dyl_imports.proofs.imports.Imports.one_names_loader.Given as goal

abbrev pub invariant-loop-i : goal.invariant-loop-i
invariant-loop-i l = (L : LinkedSet) → AreImportsOf L l.self
    → list_any (λ i. loader_as L l.m i (use_of i)) (drop l.i-index l.imports) ≡ list_any (λ i. loader_as L l.m i (use_of i)) l.imports
