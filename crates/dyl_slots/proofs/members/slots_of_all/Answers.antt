use Rattle.std.proofs.Common.{◌≡◌, ◌<◌, Some, length, refl, sym, ap, subst, slice_get, arith}
use Rattle.std.proofs.lemmas.Grind.{common_steps}
use Rattle.std.proofs.lemmas.Option.{slice_get_read}
use Rattle.dyl_slots.specs.Given.{IsSegmentedOf, IsSlotsOf, AllAt}
use Rattle.dyl_slots.proofs.AllMembers.{all_at_more, next_first}
use Rattle.dyl_slots.proofs.members.slots_of_all.Goals as goal

pub loop-s-preserved : goal.loop-s-preserved
loop-s-preserved c =
    let i = c.loop-s.s-index in
    let s = c.s-item.result in
    let inside : i < length c.args.all.now = omega arith in
    record {
      count = grind (arith, common_steps);
      room = grind (arith, common_steps);
      exact = λ L all end.
          let before = c.loop-s.invariant.exact L all end in
          let there : slice_get c.args.all.now i ≡ Some s = slice_get_read c.args.all.now (length c.args.all.now) i s refl inside c.s-item.is in
          let here : IsSegmentedOf L i s = all i s there in
          let x : IsSlotsOf L i c.in_ok-x.x = c.in_ok-x.ensures L i here before.0 in
          let next = next_first L i s here in
          let taken = ap length c.items.ensures in
          let reached = before.0 in
          (omega arith, subst (AllAt (IsSlotsOf L)) (sym c.in_ok-push.ensures.items) (all_at_more (IsSlotsOf L) c.loop-s.slots.items c.in_ok-x.x i before.1 c.loop-s.invariant.count x));
    }
