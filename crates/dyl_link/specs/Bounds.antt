-- The least size and the greatest, by the limits that imports declare.
-- Serves the contracts of this crate, which follow Plans of `spec_linking`.
use Rattle.std.specs.Prelude.{ℕ, max, min, List, [], ◌∷◌, Option, None, Some}
use Rattle.wasm_form.specs.declared.types.Limits.{Limits}
use Rattle.wasm_form.specs.declared.module.Import.{Import}
use Rattle.spec_loading.specs.spec_linking.Plans.{memory_limits, table_limits}
use Rattle.dyl_link.specs.declared.sizes.Bounds.{Bounds}
use Rattle.dyl_link.specs.declared.sizes.Shared.{Shared}
use Rattle.dyl_link.specs.declared.sizes.Shared.TheVariants as shared

abbrev pub listed : {A : Type 0} → Option A → List A
listed None = []
listed (Some x) = x ∷ []

abbrev pub limits_as : Shared → Import → List Limits
limits_as shared.Memory i = memory_limits i
limits_as shared.Table i = table_limits i

abbrev pub least : ℕ → Option ℕ → ℕ
least bound None = bound
least bound (Some n) = min bound n

-- with further limits
abbrev pub with_limits : Bounds → Limits → Bounds
with_limits b l = record { min = max b.min l.min; max = least b.max l.max }

abbrev pub all_limits : Bounds → List Limits → Bounds
all_limits b [] = b
all_limits b (l ∷ ls) = all_limits (with_limits b l) ls
