-- The members of a linked set over one store.
-- Serves the contracts of this crate, which follow Members of `spec_loading`.
use Rattle.std.specs.Prelude.{◌≡◌, ◌<◌, ℕ, length, Some}
use Rattle.spec_loading.specs.spec_runtime.Memories.{MemoryInstance}
use Rattle.spec_loading.specs.spec_execution.Instances.{ModuleParts, Instances}
use Rattle.spec_loading.specs.spec_linking.LinkedSets.{LinkedSet}
use Rattle.spec_loading.specs.Members.{set_instances, set_view, opening_store}
use Rattle.wasm_view.specs.Seen.{Seen}

-- the linked set, what its members have but for the memory, and the memory
pub record WorldState : Type 0 where
  pub linked : LinkedSet
  pub store : ModuleParts
  pub memory : MemoryInstance

-- what a machine sees of it
abbrev pub seen_of : WorldState → Seen ModuleParts
seen_of w = record { fixed = set_view w.linked; units = w.store; memory = w.memory }

-- the store has as much as it had in the beginning
pub record HasSizes (L : LinkedSet) (us : ModuleParts) : Type 0 where
  pub globals : length us.globals ≡ length (opening_store L).globals
  pub tables : length us.tables ≡ length (opening_store L).tables
  pub elems : length us.elems ≡ length (opening_store L).elems
  pub datas : length us.datas ≡ length (opening_store L).datas

-- each number in range has an address, at which something is
pub record HasPlaces (I : Instances) (us : ModuleParts) : Type 0 where
  pub globals : (m g : ℕ) → g < (I.counts m).globals → (a : ℕ) × (I.global_at m g ≡ Some a) × (a < length us.globals)
  pub tables : (m t : ℕ) → t < (I.counts m).tables → (a : ℕ) × (I.table_at m t ≡ Some a) × (a < length us.tables)
  pub elems : (m e : ℕ) → e < (I.counts m).elems → (a : ℕ) × (I.elem_at m e ≡ Some a) × (a < length us.elems)
  pub datas : (m d : ℕ) → d < (I.counts m).datas → (a : ℕ) × (I.data_at m d ≡ Some a) × (a < length us.datas)

abbrev pub Fits : LinkedSet → Type 0
Fits L = (us : ModuleParts) → HasSizes L us → HasPlaces (set_instances L) us
