-- What cells hold, and the bases of members, are words.
use Rattle.std.proofs.Common.{◌≡◌, ℕ, ◌^◌, ◌<◌, ◌≤◌, Option, Some, None, refl, arith}
use Rattle.std.specs.Prelude.{unwrap_or}
use Rattle.spec_loading.specs.spec_linking.LinkedSets.{LinkedSet, definition}
use Rattle.spec_loading.specs.spec_linking.Slots.{linked_plan, memory_base, table_base, cell_number, CellName, cell_value}
use Rattle.spec_loading.specs.spec_linking.Links.{Links}
use Rattle.spec_loading.proofs.FirstNumbers.{table_base_small, memory_base_small, number_small}

or_zero : (o : Option ℕ) → ((k : ℕ) → o ≡ Some k → k < 2 ^ 32) → unwrap_or o 0 < 2 ^ 32
or_zero None small = omega arith
or_zero (Some k) small = small k refl

module _ (L : LinkedSet) (links : Links L) where
  -- ---- cells

  module _ (few : (linked_plan L).pages_max ≤ 16384) where
    below : (linked_plan L).pages_max < 65536
    below = omega arith

    pub cell_word : (m : ℕ) (c : CellName) → cell_value L m c < 2 ^ 32
    cell_word m c = or_zero (cell_number L c.1 (definition L m c.0 c.1)) (number_small L links below c.1 (definition L m c.0 c.1))

    pub base_word : (m : ℕ) → unwrap_or (memory_base L m) 0 < 2 ^ 32
    base_word m = or_zero (memory_base L m) (memory_base_small L links below m)

  pub table_base_word : (m : ℕ) → unwrap_or (table_base L m) 0 < 2 ^ 32
  table_base_word m = or_zero (table_base L m) (table_base_small L links m)
