-- The tables of a linked set, and what making them answers.
-- Serves the contracts of this crate, which follow Slots of `spec_linking`.
use Rattle.std.specs.Prelude.{◌≡◌, ℕ, List, length}
use Rattle.wasm_form.specs.declared.runtime.Ref.{Ref}
use Rattle.spec_loading.specs.spec_linking.Plans.{Plan, sizes_of}
use Rattle.spec_loading.specs.spec_linking.LinkedSets.{LinkedSet}
use Rattle.spec_loading.specs.spec_linking.Slots.{outside_slots, slot_of, table_entries, table_most, imported_number}
use Rattle.dyl_plan.specs.declared.region.Sizes.{Sizes}
use Rattle.dyl_imports.specs.declared.imports.Imports.{Imports}
use Rattle.dyl_imports.specs.Kept.{AreImportsOf}
use Rattle.dyl_slots.specs.declared.tables.Tables.{Tables}
use Rattle.dyl_slots.specs.Given.{IsGiven, IsSlotsOf, AllAt}
use Rattle.dyl_slots.specs.Found.{slot_in}
use Rattle.dyl_slots.specs.Wanted.{cell_at}

-- what is given of a linked set, with what its imports stand for, and the least number of entries that they ask for
pub record IsCounted (L : LinkedSet) (imports : Imports) (plan : Plan) (functions : List (List Ref)) (sizes : Sizes) : Type 0 where
  pub given : IsGiven L imports.known.members.now plan functions
  pub imported : AreImportsOf L imports
  pub least : sizes.table_min ≡ (sizes_of L.set L.options).table_min

-- the tables are those of a linked set
pub record AreTables (L : LinkedSet) (t : Tables) : Type 0 where
  pub count : length t.members.items ≡ length L.set.members
  pub members : AllAt (IsSlotsOf L) t.members.items
  pub slots : (r : Ref) → slot_in t.members.items t.host_slots.items t.loader_slots r ≡ slot_of L r
  pub cells : (m g : ℕ) → cell_at t.cells.items m g ≡ imported_number L m g
  pub outside : t.outside.items ≡ outside_slots L
  pub entries : t.table_entries ≡ table_entries L
  pub most : t.table_max ≡ table_most L
