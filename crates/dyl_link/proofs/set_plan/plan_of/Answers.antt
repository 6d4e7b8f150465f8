use Rattle.std.proofs.Common.{◌∙◌, ap, map, sym, subst, All}
use Rattle.spec_loading.specs.spec_linking.Plans.{regions_of}
use Rattle.dyl_slots.specs.dyl_search.Gathers.{member_of}
use Rattle.dyl_slots.specs.dyl_plan.Regions.{HasAligns}
use Rattle.dyl_link.proofs.Aligns.{aligned}
use Rattle.dyl_link.proofs.set_plan.plan_of.Goals as goal

pub place-requires-clause-aligns : goal.place-requires-clause-aligns
place-requires-clause-aligns c =
    subst (λ rs. All HasAligns rs) (sym c.deref.ensures.value)
    (aligned c.in_ok-regions.regions.items (map member_of c.args.set.now.members) (c.in_ok-regions.ensures ∙ ap (λ ms. regions_of (map member_of ms)) c.items.ensures) c.requires.shape.members)
