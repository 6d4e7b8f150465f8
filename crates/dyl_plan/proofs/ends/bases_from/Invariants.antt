use Rattle.std.proofs.Common.{◌≡◌, ◌++◌, map, drop}
use Rattle.spec_linking.specs.Plans.{bases, end_of}
use Rattle.dyl_plan.specs.Regions.{region_of, size_in, align_in}
use Rattle.dyl_plan.proofs.ends.bases_from.Given as goal

abbrev pub invariant-loop-region : goal.invariant-loop-region
invariant-loop-region l = record {
  bases : l.bases.items ++ bases (size_in l.space) (align_in l.space) l.end (map region_of (drop l.region-index l.regions)) ≡ bases (size_in l.space) (align_in l.space) l.start (map region_of l.regions);
  rest : end_of (size_in l.space) (align_in l.space) l.end (map region_of (drop l.region-index l.regions)) ≡ end_of (size_in l.space) (align_in l.space) l.start (map region_of l.regions);
}
