use Rattle.std.proofs.Common.{◌≡◌, ◌++◌, drop, map}
use Rattle.spec_loading.specs.spec_binary.IndexSpaces.{imported_count}
use Rattle.dyl_addresses.specs.Sets.{module_of}
use Rattle.merge_index.proofs.lists.imported_counts.Given as goal

abbrev pub invariant-loop-member : goal.invariant-loop-member
invariant-loop-member l =
    l.counts.items ++ map imported_count (map module_of (drop l.member-index l.members)) ≡ map imported_count (map module_of l.members)
