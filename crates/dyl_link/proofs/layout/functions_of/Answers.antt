use Rattle.std.proofs.Common.{sym, subst, arith}
use Rattle.std.proofs.lemmas.Grind.{common_steps}
use Rattle.dyl_slots.specs.Given.{AllAt}
use Rattle.dyl_slots.proofs.AllMembers.{all_at_more}
use Rattle.dyl_link.specs.Steps.{AreNamed}
use Rattle.dyl_link.proofs.layout.functions_of.Goals as goal

pub loop-m-preserved : goal.loop-m-preserved
loop-m-preserved c = record {
  count = grind (arith, common_steps);
  exact = λ L is none.
      subst (AllAt (AreNamed L)) (sym c.in_ok-push.ensures.items)
      (all_at_more (AreNamed L) c.loop-m.functions.items c.in_ok-named.named c.loop-m.m (c.loop-m.invariant.exact L is none) c.loop-m.invariant.count (c.in_ok-named.ensures L is none));
}
