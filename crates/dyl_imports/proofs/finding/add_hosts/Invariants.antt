use Rattle.std.proofs.Common.{◌≡◌, ◌*◌, ◌≤◌, [], drop, length, map}
use Rattle.spec_loading.specs.spec_linking.LinkedSets.{LinkedSet, hosts_from}
use Rattle.dyl_search.specs.Gathers.{member_of}
use Rattle.dyl_imports.specs.Hosts.{with_hosts}
use Rattle.dyl_imports.specs.Kept.{IsKnownOf}
use Rattle.dyl_imports.proofs.finding.add_hosts.Given as goal

abbrev pub invariant-loop-m : goal.invariant-loop-m
invariant-loop-m l = record {
  exact : (L : LinkedSet) → IsKnownOf L l.known
      → with_hosts l.hosts (hosts_from L l.m (map member_of (drop l.m l.known.members.now))) ≡ with_hosts [] (hosts_from L 0 (map member_of l.known.members.now));
  few : length l.hosts ≤ l.m * 16777216;
}
