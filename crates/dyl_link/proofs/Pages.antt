-- The memory of a linked set has at most as many pages as its options say.
use Rattle.std.proofs.Common.{◌≤◌, ℕ, List, [], ◌∷◌, le_refl, arith}
use Rattle.spec_loading.specs.spec_linking.Plans.{least_of, maxima, limits_in, memory_limits}
use Rattle.spec_loading.specs.spec_linking.LinkedSets.{LinkedSet}
use Rattle.spec_loading.specs.spec_linking.Slots.{linked_plan}

least_below : (bound : ℕ) (ns : List ℕ) → least_of bound ns ≤ bound
least_below bound [] = le_refl bound
least_below bound (n ∷ ns) = omega (arith, least_below bound ns)

pub pages_below : (L : LinkedSet) → L.options.pages ≤ 16384 → (linked_plan L).pages_max ≤ 16384
pages_below L few =
    let below : (linked_plan L).pages_max ≤ L.options.pages = least_below L.options.pages (maxima (limits_in memory_limits L.set.members)) in
    omega (arith, below, few)
