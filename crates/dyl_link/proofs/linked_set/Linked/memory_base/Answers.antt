use Rattle.std.proofs.Common.{ap, slice_get, sym, ◌∙◌, length, arith}
use Rattle.spec_loading.specs.spec_linking.Plans.{Plan}
use Rattle.dyl_link.proofs.Indices.{bases_long}
use Rattle.dyl_link.proofs.linked_set.Linked.memory_base.Goals as goal

pub base-requires : goal.base-requires
base-requires c =
    let long = bases_long c.args.self.now in
    let same = ap (λ (p : Plan). length p.bases) c.plan.ensures in
    omega (arith, c.requires)

pub returns : goal.returns
returns c = ap (λ (p : Plan). slice_get p.bases c.args.m) (sym c.plan.ensures) ∙ c.base.ensures
