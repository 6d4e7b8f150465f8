-- The rooms of a module's functions, as they are kept.
-- Serves the contracts of this crate, which follow Limits of `spec_execution`.
use Rattle.std.specs.Prelude.{◌≡◌, ℕ, ◌+◌, ◌<◌, List, slice_get, Some}
use Rattle.wasm_form.specs.declared.module.Module.{Module}
use Rattle.spec_safety.specs.spec_execution.Limits.{room_of}
use Rattle.spec_safety.specs.spec_binary.Saturated.{saturated}
use Rattle.spec_safety.specs.spec_binary.IndexSpaces.{imported_count}
use Rattle.spec_safety.specs.spec_execution.Instances.{module_view}

-- the room of a function that the module defines, by its place among those
abbrev pub room_in : Module → ℕ → ℕ
room_in m n = saturated (room_of (module_view m) 0 (imported_count m + n))

-- these are the rooms of the first functions that the module defines
abbrev pub HaveRooms : Module → ℕ → List ℕ → Type 0
HaveRooms m count rooms = (n : ℕ) → n < count → slice_get rooms n ≡ Some (room_in m n)
