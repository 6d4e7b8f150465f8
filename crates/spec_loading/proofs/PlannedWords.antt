-- Where a set is planned: the bases of its members and the ends of the plan lie within the first pages and the first entries.
use Rattle.std.proofs.Common.{◌≡◌, ℕ, zero, suc, ◌+◌, ◌*◌, ◌^◌, ◌≤◌, List, [], ◌∷◌, Some, slice_get, arith}
use Rattle.spec_linking.specs.Plans.{Region, rounded_up, bases, end_of, texts_size, least_of, most_table, maxima, limits_in, table_limits, regions_of, pages_for}
use Rattle.spec_linking.specs.LinkedSets.{LinkedSet}
use Rattle.spec_linking.specs.Slots.{linked_plan, memory_base, table_base, table_entries, table_growth, table_most}
use Rattle.spec_linking.specs.Links.{Links}
use Rattle.spec_linking.proofs.LinkedFacts.{linked_limits}
use Rattle.spec_linking.proofs.Placing.{above, end_above}
use Rattle.spec_loading.proofs.SlotWords.{least_within, table_within}

base_within : (size align : Region → ℕ) (end : ℕ) (rs : List Region) (m b : ℕ) → slice_get (bases size align end rs) m ≡ Some b
    → b ≤ end_of size align end rs
base_within size align end [] m b e = absurd cc
base_within size align end (r ∷ rs) zero b e =
    let here : rounded_up (2 ^ align r) end ≡ b = cc in
    let later = end_above size align (rounded_up (2 ^ align r) end + size r) rs in
    omega arith
base_within size align end (r ∷ rs) (suc m) b e = base_within size align (rounded_up (2 ^ align r) end + size r) rs m b e

-- no more than a bound, no more than the least of the same
least_above : (low bound more : ℕ) (ns : List ℕ) → low ≤ least_of bound ns → low ≤ more → low ≤ least_of more ns
least_above low bound more [] le room = room
least_above low bound more (n ∷ ns) le room = (let later = least_above low bound more ns (omega arith) room in omega arith)

-- ---- the memory

module _ (L : LinkedSet) where
  abbrev regions_end : ℕ
  regions_end = end_of (λ r. r.mem_size) (λ r. r.mem_align) ((linked_plan L).stack_top + texts_size) (regions_of L.set.members)

  pub heap_paged : (linked_plan L).heap_base ≤ (linked_plan L).pages * 65536
  heap_paged =
      let paged = above 65536 (linked_plan L).heap_base (omega arith) in
      let pages : pages_for (linked_plan L).heap_base ≤ (linked_plan L).pages = omega arith in
      omega arith

  end_paged : regions_end ≤ (linked_plan L).pages * 65536
  end_paged = (let heap = heap_paged in let rounded = above 16 regions_end (omega arith) in omega arith)

  pub memory_base_paged : (m b : ℕ) → memory_base L m ≡ Some b → b ≤ (linked_plan L).pages * 65536
  memory_base_paged m b e =
      let within = base_within (λ r. r.mem_size) (λ r. r.mem_align) ((linked_plan L).stack_top + texts_size) (regions_of L.set.members) m b e in
      let end = end_paged in
      omega arith

  -- the error texts lie in the first pages
  pub texts_within : (linked_plan L).stack_top + texts_size ≤ (linked_plan L).pages * 65536
  texts_within =
      let past = end_above (λ r. r.mem_size) (λ r. r.mem_align) ((linked_plan L).stack_top + texts_size) (regions_of L.set.members) in
      let end = end_paged in
      omega arith

  -- ---- the table

  module _ (links : Links L) where
    -- the table's most entries are a number that tables may have, and no fewer than its first ones
    pub most_within : table_most L ≤ most_table + table_growth
    most_within =
        let most = least_within (table_entries L + table_growth) (maxima (limits_in table_limits L.set.members)) in
        let few = table_within L links in
        omega arith

    pub entries_within : table_entries L ≤ table_most L
    entries_within =
        least_above (table_entries L) most_table (table_entries L + table_growth) (maxima (limits_in table_limits L.set.members))
        (linked_limits L links).entries (omega arith)

    pub table_base_within : (m b : ℕ) → table_base L m ≡ Some b → b ≤ most_table
    table_base_within m b e =
        let within = base_within (λ r. r.table_size) (λ r. r.table_align) 1 (regions_of L.set.members) m b e in
        let limits = linked_limits L links in
        let regions = limits.regions in
        let most = least_within most_table (maxima (limits_in table_limits L.set.members)) in
        omega arith
