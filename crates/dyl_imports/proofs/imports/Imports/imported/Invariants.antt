use Rattle.std.proofs.Common.{◌≡◌, ◌≤◌, ◌++◌, drop, length}
use Rattle.spec_loading.specs.spec_binary.IndexSpaces.{functions_in}
use Rattle.spec_loading.specs.spec_linking.Imports.{importing}
use Rattle.spec_loading.specs.spec_linking.LinkedSets.{LinkedSet}
use Rattle.dyl_imports.specs.Refs.{imported_refs}
use Rattle.dyl_imports.specs.Kept.{AreImportsOf}
use Rattle.dyl_imports.proofs.imports.Imports.imported.Given as goal

abbrev pub invariant-loop-i : goal.invariant-loop-i
invariant-loop-i l = record {
  exact : (L : LinkedSet) → AreImportsOf L l.self
      → l.refs.items ++ imported_refs L l.m (length l.refs.items) (importing functions_in (drop l.i-index l.imports)) ≡ imported_refs L l.m 0 (importing functions_in l.imports);
  few : length l.refs.items ≤ l.i-index;
}
