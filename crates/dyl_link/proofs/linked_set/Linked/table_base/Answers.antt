use Rattle.std.proofs.Common.{ap, slice_get, sym, ◌∙◌, length, arith}
use Rattle.spec_loading.specs.spec_linking.Plans.{Plan}
use Rattle.dyl_link.proofs.Indices.{table_bases_long}
use Rattle.dyl_link.proofs.linked_set.Linked.table_base.Goals as goal

pub table_base-requires : goal.table_base-requires
table_base-requires c =
    let long = table_bases_long c.args.self.now in
    let same = ap (λ (p : Plan). length p.table_bases) c.plan.ensures in
    omega (arith, c.requires)

pub returns : goal.returns
returns c = ap (λ (p : Plan). slice_get p.table_bases c.args.m) (sym c.plan.ensures) ∙ c.table_base.ensures
