use Rattle.std.proofs.Common.{◌≡◌, ◌++◌, drop}
use Rattle.spec_linking.specs.LinkedSets.{function_ref}
use Rattle.spec_linking.specs.Slots.{imported_number}
use Rattle.dyl_front.specs.Listing.{bind_lines}
use Rattle.dyl_front.proofs.binds.put_binds.Given as goal

abbrev pub invariant-loop-m : goal.invariant-loop-m
invariant-loop-m l =
    l.to.items ++ bind_lines (function_ref l.linked) (imported_number l.linked) l.m (drop l.m l.linked.set.members)
    ≡ l.fn.to.items ++ bind_lines (function_ref l.linked) (imported_number l.linked) 0 l.linked.set.members
