-- What linking finds of a set, step by step.
-- Serves the contracts of this crate, which follow Links of `spec_linking`.
use Rattle.std.specs.Prelude.{◌≡◌, ℕ, ◌<◌, ◌≤◌, ◌^◌, List, map, length, slice_get, Some, None}
use Rattle.wasm_form.specs.declared.runtime.Ref.{Ref}
use Rattle.spec_loading.specs.spec_linking.Gathering.{IsSet}
use Rattle.spec_loading.specs.spec_linking.Plans.{Plan, sizes_of}
use Rattle.spec_loading.specs.spec_linking.LinkedSets.{LinkedSet, hosts_of, function_ref}
use Rattle.spec_loading.specs.spec_linking.Slots.{linked_plan}
use Rattle.spec_loading.specs.spec_linking.Links.{set_entry, members_fault}
use Rattle.spec_loading.specs.Members as loading
use Rattle.dyl_slots.specs.host_table.Names.{host_name_of}
use Rattle.dyl_slots.specs.dyl_search.declared.set.ClosedSet.{ClosedSet}
use Rattle.dyl_slots.specs.dyl_search.Gathers.{set_of}
use Rattle.dyl_slots.specs.dyl_plan.declared.region.Sizes.{Sizes}
use Rattle.dyl_slots.specs.dyl_plan.Regions.{asked}
use Rattle.dyl_slots.specs.dyl_imports.declared.imports.Imports.{Imports}
use Rattle.dyl_slots.specs.dyl_imports.Kept.{AreImportsOf}
use Rattle.dyl_slots.specs.declared.tables.Tables.{Tables}
use Rattle.dyl_slots.specs.Given.{AllAt}
use Rattle.dyl_slots.specs.Tables.{AreTables}
use Rattle.dyl_link.specs.declared.options.LinkOptions.{LinkOptions}
use Rattle.dyl_link.specs.declared.layout.Placed.{Placed}
use Rattle.dyl_link.specs.declared.entry_and_layout.Found.{Found}
use Rattle.dyl_link.specs.Sets.{options_of}

-- the functions that the numbers of member m name
abbrev pub AreNamed : LinkedSet → ℕ → List Ref → Type 0
AreNamed L m refs = (f : ℕ) → slice_get refs f ≡ function_ref L m f

-- a linked set is one of this set, linked so, and this is what its imports stand for
pub record IsOver (L : LinkedSet) (S : ClosedSet) (o : LinkOptions) (imports : Imports) : Type 0 where
  pub set : L.set ≡ set_of S
  pub options : L.options ≡ options_of o
  pub shape : IsSet L.set
  pub imported : AreImportsOf L imports

-- and its members have no fault
pub record IsSound (L : LinkedSet) (S : ClosedSet) (o : LinkOptions) (imports : Imports) : Type 0 where
  pub over : IsOver L S o imports
  pub none : members_fault L 0 L.set.members ≡ None

-- The members of a linked set have no fault, and its regions lie so. They lie in the table, and the memory is no larger than it may be.
pub record IsPlaced (L : LinkedSet) (imports : Imports) (plan : Plan) (sizes : Sizes) : Type 0 where
  pub imported : AreImportsOf L imports
  pub none : members_fault L 0 L.set.members ≡ None
  pub placed : plan ≡ linked_plan L
  pub asks : asked sizes ≡ sizes_of L.set L.options
  pub entries : plan.table_end < 2 ^ 32
  pub pages : plan.pages ≤ 16384

-- the functions that the numbers of each member name, and the tables
pub record AreAllOf (L : LinkedSet) (functions : List (List Ref)) (made : Tables) : Type 0 where
  pub count : length functions ≡ length L.set.members
  pub names : AllAt (AreNamed L) functions
  pub tables : AreTables L made

-- where the regions lie, with the functions and the tables
pub record IsPlacedOf (L : LinkedSet) (p : Placed) : Type 0 where
  pub plan : p.plan ≡ linked_plan L
  pub all : AreAllOf L p.functions.items p.tables

-- what is found of a linked set
pub record IsFoundOf (L : LinkedSet) (f : Found) : Type 0 where
  pub placed : IsPlacedOf L f.placed
  pub entry : set_entry L.set.members ≡ Some f.entry
  pub hosts : map host_name_of f.hosts.items ≡ hosts_of L
  pub uses_loader : f.uses_loader ≡ loading.uses_loader L
