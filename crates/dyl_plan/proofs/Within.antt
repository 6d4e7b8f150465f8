-- Ends and bases are within what the last region ends at.
use Rattle.std.proofs.Common.{◌≡◌, ℕ, suc, ◌+◌, ◌^◌, ◌<◌, ◌≤◌, List, map, drop, get_or, length, ap, arith}
use Rattle.std.proofs.Math.Seq.{drop-cons}
use Rattle.spec_linking.specs.Plans as plans
use Rattle.spec_linking.specs.Plans.{rounded_up, end_of}
use Rattle.spec_linking.proofs.Placing.{end_above}
use Rattle.dyl_plan.specs.declared.region.Region.{Region}
use Rattle.dyl_plan.specs.Regions.{region_of}

-- the region at an index ends no later than the last
pub region_within : (size align : plans.Region → ℕ) (end i total : ℕ) (rs : List Region) (r : Region) → i < length rs
    → end_of size align end (map region_of (drop i rs)) ≡ total → rounded_up (2 ^ align (region_of (get_or rs i r))) end + size (region_of (get_or rs i r)) ≤ total
region_within size align end i total rs r lt e =
    let first = ap (λ l. end_of size align end (map region_of l)) (drop-cons rs i r lt) in
    let later = end_above size align (rounded_up (2 ^ align (region_of (get_or rs i r))) end + size (region_of (get_or rs i r))) (map region_of (drop (suc i) rs)) in
    omega (arith, first, later, e)

pub end_within : (size align : plans.Region → ℕ) (end total : ℕ) (rs : List plans.Region) → end_of size align end rs ≡ total → end ≤ total
end_within size align end total rs e = let later = end_above size align end rs in omega (arith, later, e)
