use Rattle.std.proofs.Common.{◌≡◌, ◌++◌, drop, map}
use Rattle.dyl_addresses.specs.Sets.{module_of}
use Rattle.dyl_addresses.specs.declared.lists.Space.TheVariants.{Tables}
use Rattle.dyl_addresses.specs.Lists.{size_in, numbers_end, table_lists}
use Rattle.dyl_addresses.proofs.lists.table_lists.Given as goal

abbrev pub invariant-loop-member : goal.invariant-loop-member
invariant-loop-member l = record {
  lists : l.lists.items ++ table_lists l.next (map module_of (drop l.member-index l.members)) ≡ table_lists l.start (map module_of l.members);
  end : numbers_end (size_in Tables) l.next (map module_of (drop l.member-index l.members)) ≡ numbers_end (size_in Tables) l.start (map module_of l.members);
}
