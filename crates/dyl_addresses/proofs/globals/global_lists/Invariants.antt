use Rattle.std.proofs.Common.{◌≡◌, ◌++◌, drop, map}
use Rattle.dyl_addresses.specs.Sets.{module_of}
use Rattle.dyl_addresses.specs.Globals.{global_lists, globals_ends}
use Rattle.dyl_addresses.proofs.globals.global_lists.Given as goal

abbrev pub invariant-loop-member : goal.invariant-loop-member
invariant-loop-member l = record {
  lists : l.lists.items ++ global_lists l.next (map module_of (drop l.member-index l.members)) ≡ global_lists l.base (map module_of l.members);
  end : globals_ends l.next (map module_of (drop l.member-index l.members)) ≡ globals_ends l.base (map module_of l.members);
}
