-- What is kept of a member.
-- Serves the contracts of this crate, which follow Members of `spec_loading`.
use Rattle.std.specs.Prelude.{◌≡◌, ◌<◌, ℕ, List, length, map, slice_get, Some, is_some, IsTrue}
use Rattle.spec_loading.specs.spec_binary.IndexSpaces.{imported_count, global_space, table_space}
use Rattle.spec_loading.specs.spec_execution.Instances.{ModuleParts}
use Rattle.spec_loading.specs.spec_linking.LinkedSets.{wasm_of, LinkedSet}
use Rattle.spec_loading.specs.spec_safety.Laws.{AreThere}
use Rattle.spec_loading.specs.Addresses.{sum_before, global_address, table_address}
use Rattle.spec_loading.specs.Members.{set_instances}
use Rattle.wasm_instance.specs.Rooms.{HaveRooms}
use Rattle.dyl_store.specs.declared.run_member.Unit.{Unit}
use Rattle.dyl_store.specs.declared.world.World.TheInside.{Inside}
use Rattle.dyl_store.specs.Worlds.{WorldState, HasSizes, Fits}

-- there is a member of this number
abbrev pub IsMember : LinkedSet → ℕ → Type 0
IsMember L m = IsTrue (is_some (wasm_of L m))

-- what is kept is that of member m
pub record IsUnit (L : LinkedSet) (m : ℕ) (u : Unit) : Type 0 where
  pub member : wasm_of L m ≡ Some u.checked.now
  pub imported : u.imported ≡ imported_count u.checked.now
  pub rooms : HaveRooms u.checked.now (length u.checked.now.codes) u.rooms.items
  pub globals : (g a : ℕ) → g < length (global_space u.checked.now) → global_address L m g ≡ Some a → slice_get u.globals.items g ≡ Some a
  pub tables : (t a : ℕ) → t < length (table_space u.checked.now) → table_address L m t ≡ Some a → slice_get u.tables.items t ≡ Some a
  pub first_elem : 0 < length u.checked.now.elems → u.first_elem ≡ sum_before (λ x. length x.elems) L.set.members m
  pub first_data : 0 < length u.checked.now.datas → u.first_data ≡ sum_before (λ x. length x.datas) L.set.members m

pub record AreUnits (L : LinkedSet) (units : List Unit) : Type 0 where
  pub count : length units ≡ length L.set.members
  pub each : (m : ℕ) (u : Unit) → slice_get units m ≡ Some u → IsUnit L m u

-- ---- the world

abbrev pub store_of : Inside → ModuleParts
store_of w = record { globals = w.globals.items; tables = w.tables.items; elems = map (λ v. v.items) w.elems.items; datas = map (λ d. d.now) w.datas.items }

abbrev pub world_of : Inside → WorldState
world_of w = record { linked = w.linked.now; store = store_of w; memory = w.memory }

pub record IsWorld (w : Inside) : Type 0 where
  pub there : AreThere (set_instances w.linked.now)
  pub fits : Fits w.linked.now
  pub units : AreUnits w.linked.now w.units.items
  pub sizes : HasSizes w.linked.now (store_of w)
