use Rattle.std.proofs.Common.{arith, ◌^◌, map, drop, ap}
use Rattle.spec_linking.specs.Plans.{rounded_up}
use Rattle.dyl_plan.specs.declared.region.Region.{Region}
use Rattle.dyl_plan.specs.Regions.{region_of, size_in, align_in}
use Rattle.dyl_plan.proofs.Within.{region_within, end_within}
use Rattle.dyl_plan.proofs.ends.bases_from.Goals as goal

-- what is read where there is no region
abbrev none : Region
none = record { mem_size = 0; mem_align = 0; table_size = 0; table_align = 0 }

pub aligned-base-requires-clause-small : goal.aligned-base-requires-clause-small
aligned-base-requires-clause-small c =
    let e = end_within (size_in c.args.space) (align_in c.args.space) c.loop-region.end _ (map region_of (drop c.loop-region.region-index c.args.regions.now)) c.loop-region.invariant.rest in
    omega (arith, e, c.requires.small)

pub overflow_cast-base : goal.overflow_cast-base
overflow_cast-base c =
    let e = region_within (size_in c.args.space) (align_in c.args.space) c.loop-region.end c.loop-region.region-index _ c.args.regions.now none c.loop-region-test.true c.loop-region.invariant.rest in
    omega (arith, e, c.requires.small, c.aligned-base.ensures.value, ap (λ k. rounded_up (2 ^ k) c.loop-region.end) c.align.ensures)

pub overflow_add-end : goal.overflow_add-end
overflow_add-end c =
    let e = region_within (size_in c.args.space) (align_in c.args.space) c.loop-region.end c.loop-region.region-index _ c.args.regions.now none c.loop-region-test.true c.loop-region.invariant.rest in
    omega (arith, e, c.requires.small, c.aligned-base.ensures.value, c.size.ensures, ap (λ k. rounded_up (2 ^ k) c.loop-region.end) c.align.ensures)
