use Rattle.std.proofs.Common.{◌≡◌, ◌++◌, drop, map}
use Rattle.dyl_addresses.specs.Sets.{module_of}
use Rattle.dyl_addresses.specs.Lists.{size_in, numbers_end, numbered}
use Rattle.dyl_addresses.proofs.lists.numbered.Given as goal

abbrev pub invariant-loop-member : goal.invariant-loop-member
invariant-loop-member l = record {
  lists : l.lists.items ++ numbered (size_in l.space) l.next (map module_of (drop l.member-index l.members))
      ≡ numbered (size_in l.space) l.start (map module_of l.members);
  end : numbers_end (size_in l.space) l.next (map module_of (drop l.member-index l.members)) ≡ numbers_end (size_in l.space) l.start (map module_of l.members);
}
