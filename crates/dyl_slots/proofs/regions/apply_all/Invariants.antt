use Rattle.std.proofs.Common.{ℕ, take, map}
use Rattle.wasm_form.specs.declared.runtime.Ref.{Ref}
use Rattle.std.specs.Prelude.{Option}
use Rattle.spec_loading.specs.spec_linking.Slots.{all_applied}
use Rattle.dyl_slots.specs.Regions.{IsRegion, placing_value}
use Rattle.dyl_slots.proofs.regions.apply_all.Given as goal

abbrev pub invariant-loop-p : goal.invariant-loop-p
invariant-loop-p l = (table : ℕ → Option Ref) → IsRegion l.initial.region l.base table → IsRegion l.region l.base (all_applied table (map placing_value (take l.p-index l.placings)))
