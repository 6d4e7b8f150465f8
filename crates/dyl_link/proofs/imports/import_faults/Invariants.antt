use Rattle.std.proofs.Common.{◌≡◌, drop}
use Rattle.spec_loading.specs.spec_linking.LinkedSets.{LinkedSet}
use Rattle.spec_loading.specs.spec_linking.Links.{first_fault, import_fault}
use Rattle.dyl_slots.specs.dyl_imports.Kept.{AreImportsOf}
use Rattle.dyl_link.proofs.imports.import_faults.Given as goal

abbrev pub invariant-loop-i : goal.invariant-loop-i
invariant-loop-i l = (L : LinkedSet) → AreImportsOf L l.imports → first_fault (import_fault L l.m l.wasm) (drop l.i-index l.wasm.imports) ≡ first_fault (import_fault L l.m l.wasm) l.wasm.imports
