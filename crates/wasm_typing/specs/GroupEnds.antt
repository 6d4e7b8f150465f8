-- Where the groups of declared locals end.
-- Serves the contracts of this crate, which follow Indices of `spec_binary`.
use Rattle.std.specs.Prelude.{◌≡◌, ℕ, ◌+◌, ◌-◌, ◌^◌, ◌<◌, min, List, length, take, slice_get, Some}
use Rattle.wasm_form.specs.declared.module.Group.{Group}
use Rattle.spec_validation.specs.spec_binary.Indices.{declared_locals}

-- how many locals the first k groups declare
abbrev pub locals_before : List Group → ℕ → ℕ
locals_before groups k = length (declared_locals (take k groups))

-- where a group ends, in 64 bits
abbrev pub end_of : List Group → ℕ → ℕ
end_of groups k = min (locals_before groups (k + 1)) (2 ^ 64 - 1)

pub record AreEnds (groups : List Group) (ends : List ℕ) : Type 0 where
  pub count : length ends ≡ length groups
  pub each : (k : ℕ) → k < length groups → slice_get ends k ≡ Some (end_of groups k)
