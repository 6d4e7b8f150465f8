use Rattle.std.proofs.Common.{◌≡◌, ◌+◌, ◌≤◌, drop, length}
use Rattle.std.specs.List.{flat_map}
use Rattle.spec_loading.specs.spec_linking.LinkedSets.{LinkedSet, host_of_import}
use Rattle.dyl_imports.specs.Hosts.{with_hosts}
use Rattle.dyl_imports.specs.Kept.{IsKnownOf}
use Rattle.dyl_imports.proofs.finding.add_imports.Given as goal

abbrev pub invariant-loop-i : goal.invariant-loop-i
invariant-loop-i l = record {
  exact : (L : LinkedSet) → IsKnownOf L l.known
      → with_hosts l.hosts (flat_map (host_of_import L l.m l.wasm) (drop l.i-index l.wasm.imports)) ≡ with_hosts l.initial.hosts (flat_map (host_of_import L l.m l.wasm) l.wasm.imports);
  few : length l.hosts ≤ length l.initial.hosts + l.i-index;
}
