-- Slots of functions by their numbers.
-- Serves the contracts of this crate, which follow Slots of `spec_linking`.
use Rattle.std.specs.Prelude.{ℕ, List, Option, Some, None, nat_eq, slice_get, if◌then◌else◌}
use Rattle.spec_loading.specs.spec_binary.Options.{◌>>=◌}
use Rattle.spec_loading.specs.spec_linking.Definitions.{or_other}
use Rattle.spec_loading.specs.spec_linking.Orders.{is_among}

-- the slot at a place, if there is one
abbrev pub slot_at : List (Option ℕ) → ℕ → Option ℕ
slot_at slots n = slice_get slots n >>= λ slot. slot

-- the slot of a number, where this number has it
abbrev pub numbered : ℕ → ℕ → ℕ → Option ℕ
numbered n slot f = if nat_eq f n then Some slot else None

-- the slot that the region gives a function, or else the fresh one
abbrev pub either_slot : List (Option ℕ) → List (Option ℕ) → ℕ → Option ℕ
either_slot segments fresh f = or_other (slot_at segments f) (slot_at fresh f)

-- where it is one of these
abbrev pub slot_by : List ℕ → List (Option ℕ) → List (Option ℕ) → ℕ → Option ℕ
slot_by defined segments fresh f = if is_among f defined then either_slot segments fresh f else None
