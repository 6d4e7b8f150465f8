use Rattle.std.proofs.Common.{ap, arith, subst}
use Rattle.dyl_store.specs.Worlds.{WorldState, HasPlaces}
use Rattle.dyl_store.proofs.Members.{unit_within, unit_found}
use Rattle.dyl_store.proofs.world.World.unit.Goals as goal
use Rattle.spec_loading.specs.Members.{set_instances}

pub index-requires : goal.index-requires
index-requires c =
    let within = unit_within c.self.inside.linked.now c.args.self.now.linked c.self.inside.units.items c.self.invariant.units (ap (λ (s : WorldState). s.linked) c.self.view_is) c.args.m c.requires in
    omega (arith, within, c.self.inside.units.ok.0)

pub returns-clause-unit : goal.returns-clause-unit
returns-clause-unit c =
    unit_found c.self.inside.linked.now c.args.self.now.linked c.self.inside.units.items c.self.invariant.units (ap (λ (s : WorldState). s.linked) c.self.view_is) c.args.m c.requires c.index.result.now c.index.ensures

pub returns-clause-places : goal.returns-clause-places
returns-clause-places c = subst (λ (s : WorldState). HasPlaces (set_instances s.linked) s.store) c.self.view_is (c.self.invariant.fits _ c.self.invariant.sizes)
