use Rattle.std.proofs.Common.{◌≡◌, drop, map}
use Rattle.spec_loading.specs.spec_linking.LinkedSets.{LinkedSet}
use Rattle.spec_loading.specs.Members.{loader_from}
use Rattle.dyl_search.specs.Gathers.{member_of}
use Rattle.dyl_imports.specs.Kept.{AreImportsOf}
use Rattle.dyl_imports.proofs.imports.Imports.uses_loader.Given as goal

abbrev pub invariant-loop-m : goal.invariant-loop-m
invariant-loop-m l = (L : LinkedSet) → AreImportsOf L l.self
    → loader_from L l.m (map member_of (drop l.m l.self.known.members.now)) ≡ loader_from L 0 (map member_of l.self.known.members.now)
