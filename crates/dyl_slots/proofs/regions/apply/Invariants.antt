use Rattle.std.proofs.Common.{ℕ}
use Rattle.wasm_form.specs.declared.runtime.Ref.{Ref}
use Rattle.std.specs.Prelude.{Option}
use Rattle.dyl_slots.specs.Regions.{IsRegion, applied_first}
use Rattle.dyl_slots.proofs.regions.apply.Given as goal

abbrev pub invariant-loop-n : goal.invariant-loop-n
invariant-loop-n l = (table : ℕ → Option Ref) → IsRegion l.initial.region l.base table → IsRegion l.region l.base (applied_first l.n table (l.at, l.items))
