use Rattle.std.proofs.Common.{◌≡◌, ◌++◌, drop}
use Rattle.spec_linking.specs.Slots.{linked_plan}
use Rattle.dyl_front.specs.Listing.{module_lines}
use Rattle.dyl_front.proofs.list.put_modules.Given as goal

abbrev pub invariant-loop-m : goal.invariant-loop-m
invariant-loop-m l =
    l.to.items ++ module_lines (linked_plan l.linked) l.m (drop l.m l.linked.set.members) ≡ l.fn.to.items ++ module_lines (linked_plan l.linked) 0 l.linked.set.members
