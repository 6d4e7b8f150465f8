use Rattle.std.proofs.Common.{◌≡◌, ◌≤◌, ◌*◌, ◌^◌, drop, map}
use Rattle.dyl_addresses.specs.Sets.{module_of}
use Rattle.merge_start.specs.Listed.{elems_total}
use Rattle.merge_start.proofs.phases.elems_total.Given as goal

abbrev pub invariant-loop-member : goal.invariant-loop-member
invariant-loop-member l = record {
  told : elems_total l.total (map module_of (drop l.member-index l.members)) ≡ elems_total 0 (map module_of l.members);
  bounded : l.total ≤ l.member-index * 2 ^ 32;
}
