use Rattle.std.proofs.Common.{◌∙◌, ◌+◌, ap, length, map}
use Rattle.std.proofs.lemmas.List.{length-map}
use Rattle.spec_linking.proofs.Placing.{bases_length}
use Rattle.dyl_plan.specs.declared.region.Space.TheVariants as space
use Rattle.dyl_plan.specs.Regions.{region_of, size_in, align_in}
use Rattle.dyl_plan.proofs.plan.place.Goals as goal

pub returns-clause-count : goal.returns-clause-count
returns-clause-count c =
    ap (λ bs. length bs) c.in_ok-bases.ensures
    ∙ bases_length (size_in space.Memory) (align_in space.Memory) (c.ends_of-ends.result.stack_top + 101) (map region_of c.args.regions.now)
    ∙ length-map c.args.regions.now region_of

pub returns-clause-table_count : goal.returns-clause-table_count
returns-clause-table_count c =
    ap (λ bs. length bs) c.in_ok-table_bases.ensures
    ∙ bases_length (size_in space.Table) (align_in space.Table) 1 (map region_of c.args.regions.now)
    ∙ length-map c.args.regions.now region_of
