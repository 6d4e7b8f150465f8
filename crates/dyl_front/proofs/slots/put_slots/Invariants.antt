use Rattle.std.proofs.Common.{◌≡◌, ◌++◌, drop}
use Rattle.spec_linking.specs.LinkedSets.{hosts_of}
use Rattle.spec_linking.specs.Slots.{slot_of}
use Rattle.dyl_front.specs.Listing.{slot_lines}
use Rattle.dyl_front.proofs.slots.put_slots.Given as goal

abbrev pub invariant-loop-r : goal.invariant-loop-r
invariant-loop-r l = l.to.items ++ slot_lines l.linked.set.members (hosts_of l.linked) (slot_of l.linked) (drop l.r-index l.functions)
    ≡ l.fn.to.items ++ slot_lines l.linked.set.members (hosts_of l.linked) (slot_of l.linked) l.functions
