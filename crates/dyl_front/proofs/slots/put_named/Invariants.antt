use Rattle.std.proofs.Common.{◌≡◌, ◌++◌, drop, map}
use Rattle.spec_merging.specs.wasm_form.declared.runtime.Ref.TheVariants.{Own}
use Rattle.spec_linking.specs.LinkedSets.{hosts_of}
use Rattle.spec_linking.specs.Slots.{slot_of}
use Rattle.dyl_front.specs.Listing.{slot_lines}
use Rattle.dyl_front.proofs.slots.put_named.Given as goal

abbrev pub invariant-loop-f : goal.invariant-loop-f
invariant-loop-f l = l.to.items ++ slot_lines l.linked.set.members (hosts_of l.linked) (slot_of l.linked) (map (Own l.m) (drop l.f-index l.fresh))
    ≡ l.fn.to.items ++ slot_lines l.linked.set.members (hosts_of l.linked) (slot_of l.linked) (map (Own l.m) l.fresh)
