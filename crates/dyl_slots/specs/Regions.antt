-- What lies in a region of the table, and where functions are left in it.
-- Serves the contracts of this crate, which follow Slots of `spec_linking`.
use Rattle.std.specs.Prelude.{◌≡◌, ℕ, ◌+◌, ◌-◌, ◌<◌, length, List, Option, Some, None, ◌&&◌, nat_le, nat_lt, nat_eq, slice_index_or, if◌then◌else◌}
use Rattle.std.specs.List.{position_from}
use Rattle.wasm_form.specs.declared.runtime.Ref.{Ref}
use Rattle.wasm_form.specs.declared.runtime.Ref.TheVariants.{Own}
use Rattle.spec_loading.specs.spec_linking.Slots as slots
use Rattle.spec_loading.specs.spec_linking.Definitions.{or_other}
use Rattle.spec_loading.specs.spec_linking.Slots.{is_ref}
use Rattle.dyl_slots.specs.declared.regions.Placing.{Placing}

abbrev pub placing_value : Placing → slots.Placing
placing_value p = (p.at, p.items)

-- a region from a base on holds what stands there in the table
abbrev pub IsRegion : List (Option Ref) → ℕ → (ℕ → Option Ref) → Type 0
IsRegion region base table = (k : ℕ) → k < length region → slice_index_or region k None ≡ table (base + k)

-- what stands at an index once the first n references of a placing are written
abbrev pub applied_first : ℕ → (ℕ → Option Ref) → slots.Placing → ℕ → Option Ref
applied_first n before p i = if nat_le p.0 i && nat_lt i (p.0 + n) then slice_index_or p.1 (i - p.0) None else before i

-- once one reference is written
abbrev pub written : Option Ref → ℕ → ℕ → Option Ref → Option Ref
written item index i before = if nat_eq i index then item else before

-- the first index at which a function of member m is left
abbrev pub first_left : ℕ → ℕ → ℕ → List (Option Ref) → Option ℕ
first_left m f base region = position_from (is_ref (Own m f)) base region

-- an earlier index stays
abbrev pub noted : Option ℕ → Option Ref → ℕ → ℕ → ℕ → Option ℕ
noted before r m f index = or_other before (if is_ref (Own m f) r then Some index else None)
