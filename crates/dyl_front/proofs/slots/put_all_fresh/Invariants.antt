use Rattle.std.proofs.Common.{◌≡◌, ◌++◌, drop}
use Rattle.spec_linking.specs.LinkedSets.{hosts_of}
use Rattle.spec_linking.specs.Slots.{slot_of, fresh_from}
use Rattle.dyl_front.specs.Listing.{slot_lines}
use Rattle.dyl_front.proofs.slots.put_all_fresh.Given as goal

abbrev pub invariant-loop-m : goal.invariant-loop-m
invariant-loop-m l = l.to.items ++ slot_lines l.linked.set.members (hosts_of l.linked) (slot_of l.linked) (fresh_from l.linked l.m (drop l.m l.linked.set.members))
    ≡ l.fn.to.items ++ slot_lines l.linked.set.members (hosts_of l.linked) (slot_of l.linked) (fresh_from l.linked 0 l.linked.set.members)
