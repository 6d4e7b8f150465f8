use Rattle.std.proofs.Common.{◌<◌, ◌≤◌, ◌++◌, ℕ, List, length, map, ap, ◌∙◌, arith}
use Rattle.spec_merging.specs.wasm_form.declared.runtime.Ref.TheVariants.{Own}
use Rattle.spec_linking.specs.LinkedSets.{hosts_of}
use Rattle.spec_linking.specs.Slots.{slot_of}
use Rattle.dyl_front.specs.Listing.{slot_lines}
use Rattle.dyl_front.proofs.SlotLines.{one_more, none_left}
use Rattle.dyl_front.proofs.slots.put_all_fresh.Goals as goal

pub loop-m-preserved : goal.loop-m-preserved
loop-m-preserved c =
    let L = c.args.linked.now in
    let inside : c.loop-m.m < length L.set.members = omega (arith, c.loop-m-test.true, c.member_count-m-end.ensures.count) in
    one_more L c.loop-m.m inside c.loop-m.to.items _ _
    (c.in_ok-put_fresh.ensures ∙ ap (λ (fs : List ℕ). c.loop-m.to.items ++ slot_lines L.set.members (hosts_of L) (slot_of L) (map (Own c.loop-m.m) fs)) c.fresh.ensures)
    c.loop-m.invariant

pub returns : goal.returns
returns c =
    let L = c.args.linked.now in
    let all : length L.set.members ≤ c.loop-m.m = omega (arith, c.loop-m-test.false, c.member_count-m-end.ensures.count) in
    none_left L c.loop-m.m all c.loop-m.to.items _ c.loop-m.invariant
